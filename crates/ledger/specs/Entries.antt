-- What a ledger holds, and what its calls answer and leave.
use Rattle.std.specs.Prelude.{◌≡◌, ℕ, Bool, false, cond, List, ◌∷◌, length, Ok, Err, filter, Result, nat_lt}
use Rattle.terms.specs.declared.refusals.Refusal.{Refusal}
use Rattle.terms.specs.declared.refusals.Refusal.TheVariants.{LedgerFull}
use Rattle.calendar.specs.Places.{held}
use Rattle.calendar.specs.Queues.{queue}
use Rattle.rules.specs.declared.types.Entry.{Entry}
use Rattle.rules.specs.Order.{lapses_first}
use Rattle.rules.specs.System.{ledger_limit}
use Rattle.ledger.specs.declared.departed.Ledger.{Ledger}
use Rattle.ledger.specs.Lapses.{lapses_after}

-- The entries in the ledger, as its places arrange them. The arrangement and the tick before which none lapses are not fixed: no answer
-- depends on them.
abbrev pub entries : Ledger → List Entry
entries l = held l.calendar l.places

-- Two lists have the same entries, equal ones counted; how they are arranged is not fixed.
abbrev pub SameEntries : List Entry → List Entry → Type 0
SameEntries xs ys = queue lapses_first xs ≡ queue lapses_first ys

-- There is a place for one more entry.
abbrev pub room_for : List Entry → Bool
room_for es = nat_lt (length es) ledger_limit

-- Writing answers that it is done, or refusal 22.
abbrev pub write_answer : List Entry → Result (Unit {0}) Refusal
write_answer es = cond (room_for es) (Ok tt) (Err LedgerFull)

-- The entries after one was written, where there is a place for it.
abbrev pub written : Entry → List Entry → List Entry
written e es = cond (room_for es) (e ∷ es) es

-- Where there is no place for one more, the ledger is as it was.
abbrev pub KeptIfFull : Ledger → Ledger → Type 0
KeptIfFull l l' = room_for (entries l) ≡ false → l' ≡ l

-- The entries that lapse after the tick t: the others go.
abbrev pub purged : ℕ → List Entry → List Entry
purged t es = filter (lapses_after t) es
