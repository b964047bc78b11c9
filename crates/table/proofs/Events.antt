-- What an event on the reservation found at a place answers and leaves.
use Rattle.std.proofs.Common.{◌≡◌, ℕ, true, List, [], ◌∷◌, get_or, set, Some, Ok, Err, sym, refl, arith}
use Rattle.std.proofs.lemmas.Bool.Decides.{nat_tests}
use Rattle.terms.specs.declared.refusals.Refusal.{Refusal}
use Rattle.rules.specs.declared.types.Reservation.{Reservation}
use Rattle.rules.specs.Lists.{find, change}
use Rattle.rules.specs.Server.{on_core}
use Rattle.table.specs.declared.server.Event.{Event}
use Rattle.table.specs.declared.server.Event.TheVariants.{Wake, Rest, Charge, Refill}
use Rattle.table.specs.Calls.{event_answer, event_live, is_core, transfer_live}
use Rattle.table.specs.Events.{verdict, after_event}
use Rattle.table.proofs.Search.{At}

pub change_same : (n : ℕ) (r : Reservation) (rs : List Reservation) → find n rs ≡ Some r → change n r rs ≡ rs
change_same n r [] is = refl
change_same n r (x ∷ rs) is = let h = change_same n r rs in grind (arith, nat_tests)

-- an event that is refused changes nothing
stays : (e : Event) (t : ℕ) (r : Reservation) (why : Refusal) → Err why ≡ verdict e r → after_event e t r ≡ r
stays Wake t r why is = grind arith
stays Rest t r why is = grind arith
stays Charge t r why is = cc
stays Refill t r why is = cc

module _ (e : Event) (n t : ℕ) (rs : List Reservation) (i : ℕ) (at : At n i rs) (d : Reservation) where
  pub refused_answer : (why : Refusal) → Err why ≡ verdict e (get_or rs i d) → Err why ≡ event_answer e n t rs
  refused_answer why is = rw (at.found d) (rw (← is) refl)

  pub refused_live : (why : Refusal) → Err why ≡ verdict e (get_or rs i d) → rs ≡ event_live e n t rs
  refused_live why is =
      rw (at.found d, stays e t (get_or rs i d) why is) (sym (change_same n (get_or rs i d) rs (at.found d)))

  pub done_answer : Ok tt ≡ verdict e (get_or rs i d) → Ok (after_event e t (get_or rs i d)) ≡ event_answer e n t rs
  done_answer is = rw (at.found d) (rw (← is) refl)

  pub done_live : set rs i (after_event e t (get_or rs i d)) ≡ event_live e n t rs
  done_live = rw (at.found d) (sym (at.changes (after_event e t (get_or rs i d))))

pub transfer_done : (n core : ℕ) (rs : List Reservation) (i : ℕ) (at : At n i rs) (d : Reservation) → is_core core ≡ true → set rs i (on_core (get_or rs i d) core) ≡ transfer_live n core rs
transfer_done n core rs i at d is = rw (is, at.found d) (sym (at.changes (on_core (get_or rs i d) core)))
