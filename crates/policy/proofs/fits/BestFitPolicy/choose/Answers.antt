use Rattle.std.proofs.Common.{◌≡◌, rules}
use Rattle.policy.specs.Choices.{best_fit}
use Rattle.policy.specs.Chosen.{best_has_least}
use Rattle.policy.proofs.fits.BestFitPolicy.choose.Goals as goal

pub returns-clause-least : goal.returns-clause-least
returns-clause-least c =
    let answer : c.pick.result ≡ best_fit c.args.rooms.now c.args.parts = search rules in
    rw answer (best_has_least c.args.rooms.now c.args.parts)
