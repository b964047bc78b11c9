use Rattle.std.proofs.Common.{ap, ◌∙◌}
use Rattle.rules.specs.Questions.{bound_of}
use Rattle.engine.specs.View.{bare}
use Rattle.engine.proofs.engine.Engine.bound.Goals as goal

pub returns : goal.returns
returns g c = c.bound_of.ensures ∙ ap (λ w. bound_of (bare w c.args.self.now.inner) c.args.core) c.of.ensures
