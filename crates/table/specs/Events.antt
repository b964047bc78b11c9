-- What an event does to a reservation.
use Rattle.std.specs.Prelude.{ℕ, cond, Ok, Err, Result}
use Rattle.terms.specs.declared.refusals.Refusal.{Refusal}
use Rattle.terms.specs.declared.refusals.Refusal.TheVariants.{NotResting, Resting}
use Rattle.rules.specs.declared.types.Reservation.{Reservation}
use Rattle.rules.specs.Server.{is_resting, woken, rested, charged, refilled}
use Rattle.table.specs.declared.server.Event.{Event}
use Rattle.table.specs.declared.server.Event.TheVariants.{Wake, Rest, Charge, Refill}

-- A wake is refused of one that does not rest, and a rest of one that does.
abbrev pub verdict : Event → Reservation → Result (Unit {0}) Refusal
verdict Wake r = cond (is_resting r.state) (Ok tt) (Err NotResting)
verdict Rest r = cond (is_resting r.state) (Err Resting) (Ok tt)
verdict Charge r = Ok tt
verdict Refill r = Ok tt

-- The reservation after the event at tick t, or as it was where the event is refused.
abbrev pub after_event : Event → ℕ → Reservation → Reservation
after_event Wake t r = cond (is_resting r.state) (woken t r) r
after_event Rest t r = cond (is_resting r.state) r (rested r)
after_event Charge t r = charged r
after_event Refill t r = refilled t r
