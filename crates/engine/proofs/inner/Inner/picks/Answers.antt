use Rattle.std.proofs.Common.{ap, ◌∙◌}
use Rattle.engine.proofs.Naming.{picks_eight}
use Rattle.engine.proofs.inner.Inner.picks.Goals as goal

pub returns : goal.returns
returns c = ap (λ p. p.names) c.unwrap_or.ensures ∙ picks_eight c.args.self.now
