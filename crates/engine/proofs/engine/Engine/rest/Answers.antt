use Rattle.std.proofs.Common.{refl}
use Rattle.rules.specs.declared.types.Call.TheVariants.{Rest}
use Rattle.engine.proofs.Engines.{performs}
use Rattle.engine.proofs.engine.Engine.rest.Goals as goal

pub returns-clause-next : goal.returns-clause-next
returns-clause-next g c =
    let e = c.args.self.now in
    performs g.M.Measure.whole g.M.Measure.price g.P.Policy.choice e (g.met.M.Measure.lawful e.measure) (g.met.P.Policy.lawful e.policy) (Rest c.args.number) _ _ _ refl c.rest.ensures.next
