use Rattle.std.proofs.Common.{ap, ◌∙◌}
use Rattle.rules.specs.Lists.{find}
use Rattle.table.proofs.Search.{first_here, not_here}
use Rattle.table.proofs.live.Table.find.Goals as goal

pub returns-then-row-number : goal.returns-then-row-number
returns-then-row-number c =
    first_here c.args.number c.live-rows.result.now c.loop-row.row-index _ c.loop-row-test.true c.loop-row.invariant c.if-row-number.true
    ∙ ap (find c.args.number) c.live-rows.ensures

pub loop-row-preserved : goal.loop-row-preserved
loop-row-preserved c =
    not_here c.args.number c.live-rows.result.now c.loop-row.row-index _ c.loop-row-test.true c.loop-row.invariant c.if-row-number.false
