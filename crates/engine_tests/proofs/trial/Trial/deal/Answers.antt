use Rattle.std.proofs.Common.{sym, subst}
use Rattle.engine.specs.Engines.{shown}
use Rattle.engine.specs.Along.{InHand}
use Rattle.engine.proofs.Calling.{dealt_held, dealt_none}
use Rattle.engine_tests.proofs.trial.Trial.deal.Goals as goal

pub invariant_of-self-2 : goal.invariant_of-self-2
invariant_of-self-2 g c =
    record { held = subst (λ h. InHand h (shown c.deal.new.self)) (sym c.replace.ensures.after) (dealt_held c.in_ok-round.round c.in_ok-round.ensures.next) }

pub unreachable-requires : goal.unreachable-requires
unreachable-requires g c =
    dealt_none c.in_ok-round.round c.in-Some.field-0 c.in_ok-round.ensures.next (subst (λ h. InHand h (shown c.args.self.now.engine)) (sym c.in-Some.ensures.value) c.args.self.now.held)
