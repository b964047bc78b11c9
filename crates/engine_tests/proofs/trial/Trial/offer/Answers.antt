use Rattle.std.proofs.Common.{sym, ◌∙◌, subst}
use Rattle.engine.specs.Engines.{shown}
use Rattle.engine.specs.Along.{InHand}
use Rattle.engine_tests.proofs.Hands.{taken_none, taken_other}
use Rattle.engine_tests.proofs.trial.Trial.offer.Goals as goal

pub invariant_of-self-in-Ok : goal.invariant_of-self-in-Ok
invariant_of-self-in-Ok g c =
    let ρ = shown c.args.self.now.engine in
    let lent = subst (λ h. InHand h ρ) (sym c.take.ensures.value ∙ c.in_ok-take.was) c.args.self.now.held in
    record { held = subst (λ h. InHand h ρ) (sym c.swap.ensures.x_after) (taken_other c.in_ok-take.field-0 c.in-Ok.clock c.in-Ok.ensures.next c.args.other.now.hand ρ c.args.other.now.held lent) }

pub invariant_of-other-in-Ok : goal.invariant_of-other-in-Ok
invariant_of-other-in-Ok g c =
    record { held = subst (λ h. InHand h (shown c.settle.new.self)) (sym (c.swap.ensures.y_after ∙ c.take.ensures.after)) (taken_none c.in_ok-take.field-0 c.in-Ok.clock c.in-Ok.ensures.next) }
