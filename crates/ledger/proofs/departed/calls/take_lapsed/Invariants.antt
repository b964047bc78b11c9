use Rattle.std.proofs.Common.{◌≤◌}
use Rattle.calendar.specs.Places.{held}
use Rattle.ledger.specs.Entries.{SameEntries, purged}
use Rattle.ledger.proofs.departed.calls.take_lapsed.Given as goal

abbrev pub invariant-loop-entry : goal.invariant-loop-entry
invariant-loop-entry l =
    SameEntries (purged l.clock (held l.calendar l.places)) (purged l.clock (held l.initial.calendar l.initial.places))
    × (l.calendar.count ≤ l.initial.calendar.count)

abbrev pub decreases-loop-entry : goal.decreases-loop-entry
decreases-loop-entry l = l.calendar.count
