-- The constant bandwidth server of one reservation: waking, filling, charging, and the 0-lag time.
-- Subtraction stops at 0. That is right in each test of deadline − clock: once the deadline has passed the difference is below zero,
-- and so is the product, and no budget is below it; with 0 in its place the test answers alike.
use Rattle.std.specs.Prelude.{ℕ, ◌+◌, ◌-◌, ◌*◌, ◌/◌, Bool, true, false, cond, ◌&&◌, List, Some, None, Option, ◌==◌, nat_le, nat_lt, slice_index_or}
use Rattle.rules.specs.declared.types.Reservation.{Reservation}
use Rattle.rules.specs.declared.types.State.{State}
use Rattle.rules.specs.declared.types.State.TheVariants.{Ready, Spent, Resting}
use Rattle.rules.specs.declared.types.Entry.{Entry}

abbrev pub is_ready : State → Bool
is_ready Ready = true
is_ready Spent = false
is_ready Resting = false

abbrev pub is_spent : State → Bool
is_spent Ready = false
is_spent Spent = true
is_spent Resting = false

abbrev pub is_resting : State → Bool
is_resting Ready = false
is_resting Spent = false
is_resting Resting = true

-- One that wants ticks is ready where it has budget, and spent where it has none.
abbrev pub wanting : ℕ → State
wanting left = cond (left == 0) Spent Ready

-- The reservation with this budget left, deadline, ticks run and state.
abbrev pub served : Reservation → ℕ → ℕ → ℕ → State → Reservation
served r left deadline ran state = record {
  number = r.number;
  budget = r.budget;
  period = r.period;
  parts = r.parts;
  core = r.core;
  left = left;
  deadline = deadline;
  ran = ran;
  state = state;
}

-- The reservation on another core.
abbrev pub on_core : Reservation → ℕ → Reservation
on_core r c = record {
  number = r.number;
  budget = r.budget;
  period = r.period;
  parts = r.parts;
  core = c;
  left = r.left;
  deadline = r.deadline;
  ran = r.ran;
  state = r.state;
}

-- Filled up to this deadline: the whole budget, ready.
abbrev pub filled_to : ℕ → Reservation → Reservation
filled_to deadline r = served r r.budget deadline r.ran Ready

-- The wake-up rule at tick t: budget and deadline may be kept where the budget left, spread over the time to the deadline, is below
-- the reserved share: left × period < (deadline − t) × budget. More would let it run above its share before the deadline.
abbrev pub keeps : ℕ → Reservation → Bool
keeps t r = nat_lt (r.left * r.period) ((r.deadline - t) * r.budget)

-- Woken at tick t: kept, or filled up to t + period.
abbrev pub woken : ℕ → Reservation → Reservation
woken t r = cond (keeps t r) (served r r.left r.deadline r.ran (wanting r.left)) (filled_to (t + r.period) r)

-- At rest, with budget and deadline kept.
abbrev pub rested : Reservation → Reservation
rested r = served r r.left r.deadline r.ran Resting

-- Charged one tick.
abbrev pub charged : Reservation → Reservation
charged r = served r (r.left - 1) r.deadline (r.ran + 1) (wanting (r.left - 1))

-- A name dealt is the number n.
abbrev pub is_name : ℕ → Option ℕ → Bool
is_name n None = false
is_name n (Some m) = m == n

-- Charged one tick where it is the one named for its core.
abbrev pub charged_if : List (Option ℕ) → Reservation → Reservation
charged_if names r = cond (is_name r.number (slice_index_or names r.core None)) (charged r) r

-- A spent reservation is filled when the clock t reaches its deadline.
abbrev pub is_due : ℕ → Reservation → Bool
is_due t r = is_spent r.state && r.deadline == t

-- Filled where it is due: the deadline rises by the period.
abbrev pub refilled : ℕ → Reservation → Reservation
refilled t r = cond (is_due t r) (filled_to (r.deadline + r.period) r) r

-- The lapse tick, the 0-lag time rounded up to a whole tick: deadline − left × period / budget, the quotient rounded down. From then on
-- a reservation that left has been owed nothing more.
abbrev pub lapse : Reservation → ℕ
lapse r = r.deadline - r.left * r.period / r.budget

-- Ready and behind its share at tick t: left × period ≥ (deadline − t) × budget. A core that never counted for it could not
-- serve it in time.
abbrev pub is_behind : ℕ → Reservation → Bool
is_behind t r = is_ready r.state && nat_le ((r.deadline - t) * r.budget) (r.left * r.period)

-- What its core still counts of a reservation that leaves it.
abbrev pub entry_of : Reservation → Entry
entry_of r = record { lapse = lapse r; number = r.number; core = r.core; parts = r.parts }
