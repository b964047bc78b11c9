use Rattle.std.proofs.Common.{subst}
use Rattle.engine.specs.Engines.{shown}
use Rattle.engine.specs.Along.{InHand}
use Rattle.engine_tests.proofs.Hands.{settle_taken}
use Rattle.engine_tests.proofs.trial.Trial.drop.Goals as goal

pub unwrap-requires : goal.unwrap-requires
unwrap-requires g c =
    settle_taken c.in-Some.round c.settle.result c.settle.ensures.next (subst (λ h. InHand h (shown c.args.self.engine)) c.in-Some.is c.args.self.held)
