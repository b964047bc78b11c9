use Rattle.std.proofs.Common.{◌+◌}
use Rattle.engine.proofs.Drives.{drove_err, steps_none, steps_step, steps_last}
use Rattle.engine.proofs.runs.Runner.perform_steps.Goals as goal

pub loop-step-init : goal.loop-step-init
loop-step-init g c = steps_none c.args.self.now c.args.observer.now

pub returns-in_err-perform_step : goal.returns-in_err-perform_step
returns-in_err-perform_step g c =
    let l = c.loop-step in
    drove_err c.from_residual.result c.from_residual.ensures.0 (steps_last c.args.steps.now (l.step-index + 1) (steps_step c.args.steps.now l.step-index c.loop-step-test.true l.invariant c.in_err-perform_step.ensures))

pub loop-step-preserved : goal.loop-step-preserved
loop-step-preserved g c =
    let l = c.loop-step in
    steps_step c.args.steps.now l.step-index c.loop-step-test.true l.invariant c.in_ok-perform_step.ensures
