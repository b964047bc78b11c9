use Rattle.std.proofs.Common.{◌≡◌, ◌++◌, map, take, drop}
use Rattle.table.specs.Calls.{ticked}
use Rattle.table.specs.Keys.{Tied}
use Rattle.table.proofs.passing.Tick.pass_rows.Given as goal

abbrev pub invariant-loop-row : goal.invariant-loop-row
invariant-loop-row l = record {
  passed : l.row-items ≡ map (ticked l.self.picks.now.names l.self.clock) (take l.row-index l.initial.row-items) ++ drop l.row-index l.initial.row-items;
  tied : Tied l.ready l.row-items;
}
