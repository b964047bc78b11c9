use Rattle.std.proofs.Common.{◌≡◌, take, None}
use Rattle.rules.specs.Lists.{find}
use Rattle.table.proofs.live.Table.find.Given as goal

-- none of the rows gone over has the number
abbrev pub invariant-loop-row : goal.invariant-loop-row
invariant-loop-row l = find l.number (take l.row-index l.rows) ≡ None
