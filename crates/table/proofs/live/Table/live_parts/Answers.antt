use Rattle.std.proofs.Common.{arith}
use Rattle.table.proofs.Sums.{parts_here, parts_elsewhere}
use Rattle.table.proofs.live.Table.live_parts.Goals as goal
use Rattle.table.proofs.live.Table.live_parts.Goals.{then-row-core, else-row-core}

pub loop-row-preserved : goal.loop-row-preserved
loop-row-preserved c =
    let rows = c.live-rows.result.now in
    let i = c.loop-row.row-index in
    elim c.if-row-core.branch [
      | then-row-core w ↦ (omega (arith, w.parts-is, parts_here c.args.core rows i _ c.loop-row-test.true w.if-row-core.true), omega (arith, w.parts-is))
      | else-row-core w ↦ (omega (arith, w.parts-is, parts_elsewhere c.args.core rows i _ c.loop-row-test.true w.if-row-core.false), omega (arith, w.parts-is))
    ]
