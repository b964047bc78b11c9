use Rattle.std.proofs.Common.{refl, ap, ◌∙◌}
use Rattle.rules.specs.Calls.{move}
use Rattle.engine.specs.View.{view, bare}
use Rattle.engine.specs.Engines.{setup}
use Rattle.rules.specs.declared.types.Call.TheVariants.{Move}
use Rattle.engine.proofs.Engines.{move_bare, performs}
use Rattle.engine.proofs.engine.Engine.migrate.Goals as goal

pub returns-clause-next : goal.returns-clause-next
returns-clause-next g c =
    let e = c.args.self.now in
    performs g.M.Measure.whole g.M.Measure.price g.P.Policy.choice e (g.met.M.Measure.lawful e.measure) (g.met.P.Policy.lawful e.policy) (Move c.args.number c.args.core) _ _ _ (ap (λ w. move (bare w e.inner) (view e.inner) c.args.number c.args.core) c.of.ensures ∙ move_bare (setup g.M.Measure.whole g.M.Measure.price g.P.Policy.choice e) e.inner c.args.number c.args.core refl) c.migrate.ensures.next
