-- Bits of a list of bytes, and fields made of them. Most significant bit first.
use Rattle.std.specs.Prelude.{ℕ, zero, suc, ◌+◌, ◌-◌, ◌*◌, ◌/◌, ◌%◌, ◌^◌, Bool, true, false, cond, List, length, Some, None, Ok, Err, Option, Result, nat_le, slice_index}
use Rattle.fault.specs.declared.Spot.{Spot}
use Rattle.fault.specs.Faults.{Fault, short}

-- Bit i of the bytes.
unfoldable pub bit : List ℕ → ℕ → ℕ
bit bs i = slice_index bs (i / 8) / 2 ^ (7 - i % 8) % 2

-- The number that the w bits from bit i on spell.
unfoldable pub bits : List ℕ → ℕ → ℕ → ℕ
bits bs i zero = 0
bits bs i (suc w) = bits bs i w * 2 + bit bs (i + w)

-- Where the field that starts at bit i of a record is, if the record starts at o.
abbrev pub spot_of : Spot → ℕ → Spot
spot_of o i = record { byte = o.byte + i / 8; number = o.number }

-- The field of w bits at bit i of the record that starts at o and has the bytes bs: complete, or cut.
unfoldable pub field_of : List ℕ → Spot → ℕ → ℕ → Result ℕ Fault
field_of bs o i w = cond (nat_le (i + w) (8 * length bs)) (Ok (bits bs i w)) (Err (short (spot_of o i)))

-- One reading after another: the second only if the first has an answer.
abbrev pub then : {A B : Type 0} → Result A Fault → (A → Result B Fault) → Result B Fault
then (Ok x) f = f x
then (Err e) f = Err e

-- Go on if the test holds, else tell the fault.
abbrev pub given : {A : Type 0} → Bool → Fault → Result A Fault → Result A Fault
given true e r = r
given false e r = Err e

-- Go on with what the number names, else tell the fault.
abbrev pub named : {A : Type 0} → Option A → Fault → Result A Fault
named (Some x) e = Ok x
named None e = Err e
