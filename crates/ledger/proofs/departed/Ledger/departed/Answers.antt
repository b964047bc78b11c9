use Rattle.std.proofs.Common.{sym, ◌∙◌, arith}
use Rattle.ledger.proofs.Sums.{parts_here, parts_elsewhere}
use Rattle.ledger.proofs.departed.Ledger.departed.Goals as goal
use Rattle.ledger.proofs.departed.Ledger.departed.Goals.{then-counts, else-counts}

pub loop-entry-preserved : goal.loop-entry-preserved
loop-entry-preserved c =
    let t = c.args.clock in
    let core = c.args.core in
    let held = c.held-held.result.now in
    let i = c.loop-entry.entry-index in
    elim c.if-counts.branch [
      | then-counts w ↦ (omega (arith, w.parts-is, parts_here t core held i _ c.loop-entry-test.true (sym c.counts.ensures ∙ w.if-counts.true)), omega (arith, w.parts-is))
      | else-counts w ↦ (omega (arith, w.parts-is, parts_elsewhere t core held i _ c.loop-entry-test.true (sym c.counts.ensures ∙ w.if-counts.false)), omega (arith, w.parts-is))
    ]
