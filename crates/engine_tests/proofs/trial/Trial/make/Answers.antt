use Rattle.engine.proofs.Calling.{calm_held}
use Rattle.engine_tests.proofs.trial.Trial.make.Goals as goal

pub invariant_of-self : goal.invariant_of-self
invariant_of-self g c = record { held = calm_held _ _ c.args.self.now.hand tt c.admit.ensures.next c.args.self.now.held }

pub invariant_of-self-in-Wake : goal.invariant_of-self-in-Wake
invariant_of-self-in-Wake g c = record { held = calm_held _ _ c.args.self.now.hand tt c.wake.ensures.next c.args.self.now.held }

pub invariant_of-self-in-Rest : goal.invariant_of-self-in-Rest
invariant_of-self-in-Rest g c = record { held = calm_held _ _ c.args.self.now.hand tt c.rest.ensures.next c.args.self.now.held }

pub invariant_of-self-in-Leave : goal.invariant_of-self-in-Leave
invariant_of-self-in-Leave g c = record { held = calm_held _ _ c.args.self.now.hand tt c.leave.ensures.next c.args.self.now.held }

pub invariant_of-self-in-Move : goal.invariant_of-self-in-Move
invariant_of-self-in-Move g c = record { held = calm_held _ _ c.args.self.now.hand tt c.migrate.ensures.next c.args.self.now.held }
