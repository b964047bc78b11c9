use Rattle.std.proofs.Common.{sym, ◌∙◌, subst}
use Rattle.engine.specs.Engines.{shown}
use Rattle.engine.specs.Along.{InHand}
use Rattle.engine.proofs.Calling.{settled_held}
use Rattle.engine_tests.proofs.trial.Trial.settle.Goals as goal

pub invariant_of-self-2 : goal.invariant_of-self-2
invariant_of-self-2 g c =
    record { held = subst (λ h. InHand h (shown c.settle.new.self)) (sym c.take.ensures.after) (settled_held c.in_ok-round.round _ c.settle.ensures.next (subst (λ h. InHand h (shown c.args.self.now.engine)) (sym c.take.ensures.value ∙ c.in_ok-round.ensures.ok_part) c.args.self.now.held)) }
