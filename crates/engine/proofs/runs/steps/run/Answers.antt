use Rattle.std.proofs.Common.{refl}
use Rattle.engine.proofs.Running.{ran}
use Rattle.engine.proofs.runs.steps.run.Goals as goal

pub returns : goal.returns
returns g c =
    ran g.M.Measure.whole g.M.Measure.price g.P.Policy.choice g.O.Observer.shows c.args.measure c.args.policy c.args.figures.now c.args.start c.args.steps.now c.is_ok-complete.result c.in_ok-engine.ensures refl c.perform_steps.ensures c.is_ok-complete.ensures.value
