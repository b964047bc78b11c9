use Rattle.std.proofs.Common.{◌≡◌, ◌*◌, ◌≤◌, take}
use Rattle.rules.specs.Parts.{live_parts}
use Rattle.table.proofs.live.Table.live_parts.Given as goal

-- the parts of the rows gone over
abbrev pub invariant-loop-row : goal.invariant-loop-row
invariant-loop-row l = (l.parts ≡ live_parts l.core (take l.row-index l.rows)) × (l.parts ≤ l.row-index * 4294967296)
