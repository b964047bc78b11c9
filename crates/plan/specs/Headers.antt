-- The layout of a plan's header.
use Rattle.std.specs.Prelude.{◌≡◌, ◌≤◌, All, length, take, ℕ, zero, suc, ◌+◌, ◌-◌, ◌*◌, ◌/◌, cond, ◌&&◌, List, replicate, Some, None, Ok, Option, Result, ◌==◌, nat_le, slice_set}
use Rattle.fault.specs.declared.Flaw.{Flaw}
use Rattle.fault.specs.declared.Spot.{Spot}
use Rattle.plan.specs.declared.header.Header.{Header}
use Rattle.plan.specs.declared.header.Setup.{Setup}
use Rattle.plan.specs.declared.header.MeasureKind.{MeasureKind}
use Rattle.plan.specs.declared.header.PolicyKind.{PolicyKind}
use Rattle.plan.specs.Bits.{field_of, spot_of, then, given, named}
use Rattle.fault.specs.Faults.{Fault, wrong}

-- The header is record 0 and starts at byte 0.
abbrev pub origin : Spot
origin = record { byte = 0; number = 0 }

-- The mark, 12 bits, is 0xCB5; the edition, 4 bits, is 1.
abbrev pub marks_of : List ℕ → Result (Unit {0}) Fault
marks_of bs =
    then (field_of bs origin 0 12) (λ mark. given (mark == 0xCB5) (wrong Flaw.Mark (spot_of origin 0)) (
    then (field_of bs origin 12 4) (λ edition. given (edition == 1) (wrong Flaw.Edition (spot_of origin 12)) (
    Ok tt))))

-- The measure's bit: 0 rounded, 1 catalogue.
abbrev pub measure_of : ℕ → MeasureKind
measure_of n = cond (n == 0) MeasureKind.Rounded MeasureKind.Catalogue

-- The policy's number: 0 first fit, 1 worst fit, 2 best fit.
abbrev pub policy_of : ℕ → Option PolicyKind
policy_of n =
    cond (n == 0) (Some PolicyKind.First) (cond (n == 1) (Some PolicyKind.Worst) (cond (n == 2) (Some PolicyKind.Best) None))

-- Cores, 4 bits, from 1 to 8; measure, 1 bit; policy, 2 bits; a spare bit, zero.
abbrev pub setup_of : List ℕ → Result Setup Fault
setup_of bs =
    then (field_of bs origin 16 4) (λ cores. given (nat_le 1 cores && nat_le cores 8) (wrong Flaw.Range (spot_of origin 16)) (
    then (field_of bs origin 20 1) (λ measure.
    then (field_of bs origin 21 2) (λ n. then (named (policy_of n) (wrong Flaw.Range (spot_of origin 21))) (λ policy.
    then (field_of bs origin 23 1) (λ spare. given (spare == 0) (wrong Flaw.Spare (spot_of origin 23)) (
    Ok (record { cores = cores; measure = measure_of measure; policy = policy }))))))))

-- The start, 32 bits, is at most 4,000,000,000.
abbrev pub start_of : List ℕ → Result ℕ Fault
start_of bs =
    then (field_of bs origin 24 32) (λ start. given (nat_le start 4000000000) (wrong Flaw.Range (spot_of origin 24)) (Ok start))

-- The bit where the B of core k starts.
abbrev pub bound_bit : ℕ → ℕ
bound_bit k = 56 + 10 * k

-- The B of core k, 10 bits, is from 1 to 1,000.
abbrev pub bound_of : List ℕ → ℕ → Result ℕ Fault
bound_of bs k =
    then (field_of bs origin (bound_bit k) 10) (λ b. given (nat_le 1 b && nat_le b 1000) (wrong Flaw.Range (spot_of origin (bound_bit k))) (Ok b))

-- The Bs of the first n cores, in eight places of which the others hold 0.
unfoldable pub bounds_of : List ℕ → ℕ → Result (List ℕ) Fault
bounds_of bs zero = Ok (replicate 8 0)
bounds_of bs (suc n) = then (bounds_of bs n) (λ xs. then (bound_of bs n) (λ b. Ok (slice_set xs n b)))

-- How many bytes the header of so many cores has: its bits, filled up to whole bytes.
abbrev pub header_length : ℕ → ℕ
header_length cores = (bound_bit cores + 7) / 8

-- The bits from the last B to the byte's end are zero.
abbrev pub filling_of : List ℕ → ℕ → Result (Unit {0}) Fault
filling_of bs cores =
    then (field_of bs origin (bound_bit cores) (8 * header_length cores - bound_bit cores)) (λ filling. given (filling == 0) (wrong Flaw.Spare (spot_of origin (bound_bit cores))) (Ok tt))

-- The header: its fields in their order.
abbrev pub header_of : List ℕ → Result Header Fault
header_of bs =
    then (marks_of bs) (λ _.
    then (setup_of bs) (λ setup.
    then (start_of bs) (λ start.
    then (bounds_of bs setup.cores) (λ bounds.
    then (filling_of bs setup.cores) (λ _.
    Ok (record { cores = setup.cores; measure = setup.measure; policy = setup.policy; start = start; bounds = bounds }))))))

-- What every accepted header keeps to: 1 to 8 cores, a start of at most 4,000,000,000, and a B of 1 to 1,000 for each core.
abbrev pub IsBound : ℕ → Type 0
IsBound b = (1 ≤ b) × (b ≤ 1000)

pub record IsWithinLimits (h : Header) : Type 0 where
  pub some : 1 ≤ h.cores
  pub few : h.cores ≤ 8
  pub start : h.start ≤ 4000000000
  pub places : length h.bounds ≡ 8
  pub bounds : All IsBound (take h.cores h.bounds)
