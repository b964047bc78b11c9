-- What each call on a table answers, and the live reservations and the clock that it leaves.
use Rattle.std.specs.Prelude.{ℕ, ◌+◌, ◌-◌, min, Bool, cond, ◌&&◌, ◌||◌, List, [], ◌∷◌, ◌++◌, map, length, replicate, Some, None, Ok, Err, Option, Result, ◌==◌, nat_le, nat_lt, slice_index_or}
use Rattle.std.specs.Result.{result_and}
use Rattle.terms.specs.declared.refusals.Refusal.{Refusal}
use Rattle.terms.specs.declared.refusals.Refusal.TheVariants.{Start, NoCore, ClockEnd, NoReservation, TooMany, NotResting, Resting as AlreadyResting}
use Rattle.rules.specs.declared.types.Reservation.{Reservation}
use Rattle.rules.specs.declared.types.State.{State}
use Rattle.rules.specs.declared.types.State.TheVariants.{Resting}
use Rattle.rules.specs.Lists.{find, change}
use Rattle.rules.specs.Setup.{last_tick}
use Rattle.rules.specs.System.{live_limit}
use Rattle.rules.specs.Server.{is_resting, is_name, is_due, woken, rested, on_core, charged_if, refilled}
use Rattle.rules.specs.Dealing.{picks}
use Rattle.table.specs.declared.server.Event.{Event}
use Rattle.table.specs.Events.{verdict, after_event}

-- A table starts at a tick of at most the last, with none live.
abbrev pub opening : ℕ → Result (ℕ × List Reservation) Refusal
opening start = cond (nat_le start last_tick) (Ok (start, [])) (Err Start)

-- One of eight cores.
abbrev pub is_core : ℕ → Bool
is_core core = nat_lt core 8

-- A reservation just admitted at tick t: resting, no budget, the deadline at the clock, none run.
abbrev pub newcomer : ℕ → ℕ → ℕ → ℕ → ℕ → ℕ → Reservation
newcomer t number q p parts core = record {
  number = number;
  budget = q;
  period = p;
  parts = parts;
  core = core;
  left = 0;
  deadline = t;
  ran = 0;
  state = Resting;
}

-- Admit asks for one of eight cores, and then for a place.
abbrev pub admit_answer : ℕ → List Reservation → Result (Unit {0}) Refusal
admit_answer core rs = cond (is_core core) (cond (nat_lt (length rs) live_limit) (Ok tt) (Err TooMany)) (Err NoCore)

-- The newcomer is the last, where there is such a core and a place.
abbrev pub admit_live : Reservation → List Reservation → List Reservation
admit_live r rs = cond (is_core r.core && nat_lt (length rs) live_limit) (rs ++ r ∷ []) rs

-- What is asked of a reservation, or that there is none.
abbrev pub of_live : {X : Type 0} → Option Reservation → (Reservation → Result X Refusal) → Result X Refusal
of_live None answer = Err NoReservation
of_live (Some r) answer = answer r

-- The live reservations after a call on the reservation that was found, if one was.
abbrev pub in_live : Option Reservation → List Reservation → (Reservation → List Reservation) → List Reservation
in_live None rs next = rs
in_live (Some r) rs next = next r

-- An event on the reservation n tells what it is then, unless the event is refused.
abbrev pub event_answer : Event → ℕ → ℕ → List Reservation → Result Reservation Refusal
event_answer e n t rs = of_live (find n rs) λ r. result_and (verdict e r) (Ok (after_event e t r))

-- The live reservations after an event on the reservation n.
abbrev pub event_live : Event → ℕ → ℕ → List Reservation → List Reservation
event_live e n t rs = in_live (find n rs) rs λ r. change n (after_event e t r) rs

-- Wake tells the state and the deadline of one that rested.
abbrev pub wake_answer : ℕ → ℕ → List Reservation → Result (State × ℕ) Refusal
wake_answer n t rs = of_live (find n rs) λ r. cond (is_resting r.state) (Ok ((woken t r).state, (woken t r).deadline)) (Err NotResting)

-- Woken where it rested, else all stay as they were.
abbrev pub wake_live : ℕ → ℕ → List Reservation → List Reservation
wake_live n t rs = in_live (find n rs) rs λ r. cond (is_resting r.state) (change n (woken t r) rs) rs

-- Rest tells the budget left of one that did not rest.
abbrev pub rest_answer : ℕ → List Reservation → Result ℕ Refusal
rest_answer n rs = of_live (find n rs) λ r. cond (is_resting r.state) (Err AlreadyResting) (Ok r.left)

-- At rest where it did not rest, else all stay as they were.
abbrev pub rest_live : ℕ → List Reservation → List Reservation
rest_live n rs = in_live (find n rs) rs λ r. cond (is_resting r.state) rs (change n (rested r) rs)

-- Remove gives the reservation that goes.
abbrev pub remove_answer : ℕ → List Reservation → Result Reservation Refusal
remove_answer n rs = of_live (find n rs) Ok

-- Transfer asks for one of eight cores, and then for the reservation.
abbrev pub transfer_answer : ℕ → ℕ → List Reservation → Result (Unit {0}) Refusal
transfer_answer n core rs = cond (is_core core) (of_live (find n rs) λ r. Ok tt) (Err NoCore)

-- The reservation on the other core, where there are both.
abbrev pub transfer_live : ℕ → ℕ → List Reservation → List Reservation
transfer_live n core rs = cond (is_core core) (in_live (find n rs) rs λ r. change n (on_core r core) rs) rs

-- The names dealt for eight cores: those of the first cores, of eight at most, and none for the rest.
abbrev pub dealt : ℕ → List Reservation → List (Option ℕ)
dealt cores rs = picks (min cores 8) rs ++ replicate (8 - min cores 8) None

-- A tick passes unless the clock shows the last.
abbrev pub tick_answer : ℕ → Result ℕ Refusal
tick_answer t = cond (t == last_tick) (Err ClockEnd) (Ok (t + 1))

-- The clock after a tick, if one passes.
abbrev pub tick_clock : ℕ → ℕ
tick_clock t = cond (t == last_tick) t (t + 1)

-- One tick on: charged where it is named, and filled where it is then due.
abbrev pub ticked : List (Option ℕ) → ℕ → Reservation → Reservation
ticked names t r = refilled t (charged_if names r)

-- The tick concerns a reservation: it is named for its core, or due.
abbrev pub is_concerned : List (Option ℕ) → ℕ → Reservation → Bool
is_concerned names t r = is_name r.number (slice_index_or names r.core None) || is_due t r

-- Each reservation one tick on, if a tick passes.
abbrev pub tick_live : List (Option ℕ) → ℕ → List Reservation → List Reservation
tick_live names t rs = cond (t == last_tick) rs (map (ticked names (t + 1)) rs)
