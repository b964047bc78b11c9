-- What a plan fault tells, and in which words.
use Rattle.std.specs.Prelude.{ℕ, List, ◌++◌, Ok, Err, codes, decimal, Result}
use Rattle.fault.specs.declared.Cause.{Cause}
use Rattle.fault.specs.declared.Layer.{Layer}
use Rattle.fault.specs.declared.Flaw.{Flaw}
use Rattle.fault.specs.declared.Spot.{Spot}
use Rattle.fault.specs.declared.BitFault.{BitFault}
use Rattle.fault.specs.declared.RecordFault.{RecordFault}
use Rattle.fault.specs.declared.PlanFault.{PlanFault}

-- The number of each cause.
abbrev pub cause_number : Cause → ℕ
cause_number Cause.TooLong = 30
cause_number Cause.Short = 31
cause_number Cause.Mark = 32
cause_number Cause.Edition = 33
cause_number Cause.Spare = 34
cause_number Cause.Kind = 35
cause_number Cause.Range = 36
cause_number Cause.Trailing = 37

-- The word of each layer.
abbrev pub layer_word : Layer → List ℕ
layer_word Layer.Bits = codes "bits"
layer_word Layer.Record = codes "record"
layer_word Layer.Plan = codes "plan"

-- A fault tells its cause, its layer, and where the field starts: the byte, and the record.
pub record Fault : Type 0 where
  pub cause : Cause
  pub layer : Layer
  pub at : Spot

-- The cause that a complete field gives.
abbrev pub flaw_cause : Flaw → Cause
flaw_cause Flaw.Mark = Cause.Mark
flaw_cause Flaw.Edition = Cause.Edition
flaw_cause Flaw.Spare = Cause.Spare
flaw_cause Flaw.Kind = Cause.Kind
flaw_cause Flaw.Range = Cause.Range

-- The input ends before the field is complete: 31, in the bits.
abbrev pub short : Spot → Fault
short at = record { cause = Cause.Short; layer = Layer.Bits; at = at }

-- A complete field is wrong: 32 to 36, in its record.
abbrev pub wrong : Flaw → Spot → Fault
wrong flaw at = record { cause = flaw_cause flaw; layer = Layer.Record; at = at }

-- The plan is longer than 65,536 bytes: 30, in the plan.
abbrev pub too_long : Fault
too_long = record { cause = Cause.TooLong; layer = Layer.Plan; at = record { byte = 65536; number = 0 } }

-- Bytes follow the end record: 37, in the plan.
abbrev pub trailing : Spot → Fault
trailing at = record { cause = Cause.Trailing; layer = Layer.Plan; at = at }

-- What a fault of each layer tells.
abbrev pub bit_told : BitFault → Fault
bit_told f = short f.at

abbrev pub record_told : RecordFault → Fault
record_told (RecordFault.Bits f) = bit_told f
record_told (RecordFault.Field flaw at) = wrong flaw at

abbrev pub plan_told : PlanFault → Fault
plan_told PlanFault.TooLong = too_long
plan_told (PlanFault.Record f) = record_told f
plan_told (PlanFault.Trailing at) = trailing at

-- An answer with its fault as told.
abbrev pub told : {T E : Type 0} → (E → Fault) → Result T E → Result T Fault
told f (Ok x) = Ok x
told f (Err e) = Err (f e)

-- An answer with its value as seen through f.
abbrev pub shown : {A B : Type 0} → (A → B) → Result A Fault → Result B Fault
shown f (Ok x) = Ok (f x)
shown f (Err e) = Err e

-- The line that a fault prints.
abbrev pub fault_line : Fault → List ℕ
fault_line f =
    codes "plan fault " ++ (decimal (cause_number f.cause) ++ (codes " at " ++ (decimal f.at.byte ++ (codes " record " ++ (decimal f.at.number ++ (codes " in " ++ layer_word f.layer))))))
