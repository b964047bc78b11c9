-- What a call of the export says, and what it does to the caller's buffer.
use Rattle.std.specs.Prelude.{◌≡◌, ℕ, Bool, true, false, ◌⊎◌, List, ◌++◌, length, drop, nat_le}
use Rattle.wazrelin.specs.declared.export.Written.{Written}
use Rattle.wazrelin.specs.declared.export.Status.{Status}

-- The number of each status.
abbrev pub status_number : Status → ℕ
status_number Status.Whole = 0
status_number Status.Short = 1
status_number Status.NoMemory = 2

-- How many bytes the report has, and how the call ended.
abbrev pub say : ℕ → Status → Written
say n s = record { length = n; status = status_number s }

-- Whether the buffer has room for the bytes.
abbrev pub has_room : List ℕ → List ℕ → Bool
has_room bytes buffer = nat_le (length bytes) (length buffer)

-- What is said of bytes that have room, or have none: their number in either case.
abbrev pub said_for : Bool → List ℕ → Written
said_for true bytes = say (length bytes) Status.Whole
said_for false bytes = say (length bytes) Status.Short

-- What the buffer then holds: the bytes and after them what it held there, or all that it held.
abbrev pub held_for : Bool → List ℕ → List ℕ → List ℕ
held_for true bytes buffer = bytes ++ drop (length bytes) buffer
held_for false bytes buffer = buffer

-- The bytes were written to the buffer where it has room for them.
pub record Filled (bytes before : List ℕ) (w : Written) (after : List ℕ) : Type 0 where
  pub says : w ≡ said_for (has_room bytes before) bytes
  pub holds : after ≡ held_for (has_room bytes before) bytes before

-- Memory failed, and the buffer is as it was.
pub record Failed (before : List ℕ) (w : Written) (after : List ℕ) : Type 0 where
  pub says : w ≡ say 0 Status.NoMemory
  pub holds : after ≡ before

-- The one or the other; which of them is all that a call's arguments leave open.
abbrev pub Answered : List ℕ → List ℕ → Written → List ℕ → Type 0
Answered bytes before w after = Filled bytes before w after ⊎ Failed before w after
