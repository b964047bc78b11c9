-- One event after another.
use Rattle.std.proofs.Common.{◌≡◌, ℕ, ◌<◌, ◌≤◌, true, false, List, length, Ok, Err}
use Rattle.std.proofs.lemmas.Bool.{le-leb, lt-leb}
use Rattle.fault.specs.declared.Spot.{Spot}
use Rattle.plan.specs.Bits.{spot_of}
use Rattle.fault.specs.Faults.{Fault, trailing}
use Rattle.plan.specs.Records.{Row, event_of}
use Rattle.plan.specs.Plans.{is_end, step_of}

module _ (bs : List ℕ) (o : Spot) where
  pub step_fault : (e : Fault) → Err e ≡ event_of bs o → Err e ≡ step_of bs o
  unfolding step_of
  step_fault e h = rw (← h)

  module _ {e : Row} (h : Ok e ≡ event_of bs o) where
    pub step_on : is_end e.kind ≡ false → Ok e ≡ step_of bs o
    unfolding step_of
    step_on k = rw (← h, k)

    module _ (k : is_end e.kind ≡ true) where
      pub step_end : length bs ≤ 8 → Ok e ≡ step_of bs o
      unfolding step_of
      step_end l = rw (← h, k, le-leb (length bs) 8 l)

      pub step_trailing : 8 < length bs → Err (trailing (spot_of o 64)) ≡ step_of bs o
      unfolding step_of
      step_trailing l = rw (← h, k, lt-leb (length bs) 8 l)
