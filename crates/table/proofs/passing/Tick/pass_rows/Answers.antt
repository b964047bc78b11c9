use Rattle.std.proofs.Common.{get_or, set, ap, ◌∙◌, arith}
use Rattle.std.proofs.lemmas.List.{get_or_default}
use Rattle.std.proofs.lemmas.List.Edits.{map_over_more}
use Rattle.table.specs.Calls.{ticked}
use Rattle.table.proofs.Turns.{all_over, at_over}
use Rattle.table.proofs.Ties.{room_less, tied_next}
use Rattle.table.proofs.passing.Tick.pass_rows.Goals as goal

pub pass_row-requires-clause-fits : goal.pass_row-requires-clause-fits
pass_row-requires-clause-fits c =
    rw (at_over (ticked c.args.self.now.picks.now.names c.args.self.now.clock) c.args.rows.now c.loop-row.row-items c.loop-row.row-index c.loop-row.invariant.passed _ c.loop-row-test.true) (c.requires.fits c.loop-row.row-index _ c.loop-row-test.true)

pub pass_row-requires-clause-room : goal.pass_row-requires-clause-room
pass_row-requires-clause-room c =
    room_less c.loop-row.row-items c.loop-row.ready c.loop-row.invariant.tied c.loop-row.row-index _ (omega arith) (omega arith)

pub loop-row-preserved : goal.loop-row-preserved
loop-row-preserved c =
    let items = c.loop-row.row-items in
    let i = c.loop-row.row-index in
    record {
      passed = ap (set items i) c.pass_row.ensures.row ∙ map_over_more (ticked c.args.self.now.picks.now.names c.args.self.now.clock) c.args.rows.now items i (get_or items i _) c.loop-row-test.true c.loop-row.invariant.passed (get_or_default items i _ _ (omega arith));
      tied = tied_next c.loop-row.row-items c.loop-row.ready c.loop-row.invariant.tied c.loop-row.row-index _ (omega arith) c.pass_row.new.ready c.pass_row.new.row c.pass_row.ensures.keys;
    }

pub returns-clause-rows : goal.returns-clause-rows
returns-clause-rows c =
    all_over (ticked c.args.self.now.picks.now.names c.args.self.now.clock) c.args.rows.now c.loop-row.row-items c.loop-row.row-index c.loop-row.invariant.passed (omega arith)
