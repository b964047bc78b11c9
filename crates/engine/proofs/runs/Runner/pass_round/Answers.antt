use Rattle.engine.proofs.Drives.{drove_err, round_undealt, round_passed}
use Rattle.engine.proofs.runs.Runner.pass_round.Goals as goal

pub returns-in_err-perform : goal.returns-in_err-perform
returns-in_err-perform g c = drove_err c.from_residual.result c.from_residual.ensures.0 (round_undealt c.in_err-perform.ensures)

pub returns : goal.returns
returns g c = round_passed c.clock-tick.result c.in_ok-perform.ensures c.clock-tick.ensures c.perform-2.ensures
