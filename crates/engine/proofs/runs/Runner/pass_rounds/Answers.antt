use Rattle.std.proofs.Common.{◌+◌, arith}
use Rattle.engine.proofs.Drives.{drove_err, rounds_none, rounds_step, rounds_last}
use Rattle.engine.proofs.runs.Runner.pass_rounds.Goals as goal

pub loop-init : goal.loop-init
loop-init g c = rounds_none c.args.self.now c.args.observer.now

pub returns-in_err-pass_round : goal.returns-in_err-pass_round
returns-in_err-pass_round g c =
    drove_err c.from_residual.result c.from_residual.ensures.0 (rounds_last (c.loop.counter + 1) c.args.count (omega arith) (rounds_step c.loop.counter c.loop.invariant c.in_err-pass_round.ensures))

pub loop-preserved : goal.loop-preserved
loop-preserved g c = rounds_step c.loop.counter c.loop.invariant c.in_ok-pass_round.ensures
