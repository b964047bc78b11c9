use Rattle.engine.proofs.Drives.{step_called}
use Rattle.engine.proofs.runs.Runner.perform_step.Goals as goal

pub returns-in-Some : goal.returns-in-Some
returns-in-Some g c = step_called c.args.step c.in_ok-pass_rounds.ensures c.in-Some.is c.perform.ensures
