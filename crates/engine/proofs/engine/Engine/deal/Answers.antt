use Rattle.std.proofs.Common.{refl}
use Rattle.engine.specs.Engines.{setup}
use Rattle.rules.specs.declared.types.Call.TheVariants.{Deal}
use Rattle.engine.proofs.Engines.{deal_bare, performs}
use Rattle.engine.proofs.engine.Engine.deal.Goals as goal

pub returns-clause-next : goal.returns-clause-next
returns-clause-next g c =
    let e = c.args.self.now in
    performs g.M.Measure.whole g.M.Measure.price g.P.Policy.choice e (g.met.M.Measure.lawful e.measure) (g.met.P.Policy.lawful e.policy) (Deal) _ _ _ (deal_bare (setup g.M.Measure.whole g.M.Measure.price g.P.Policy.choice e) e.inner 0 refl) c.deal.ensures.next
