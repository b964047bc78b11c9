use Rattle.std.proofs.Common.{◌≡◌, rules}
use Rattle.policy.specs.Choices.{first_fit}
use Rattle.policy.specs.Chosen.{first_is_lowest}
use Rattle.policy.proofs.fits.FirstFitPolicy.choose.Goals as goal

pub returns-clause-lowest : goal.returns-clause-lowest
returns-clause-lowest c =
    let answer : c.pick.result ≡ first_fit c.args.rooms.now c.args.parts = search rules in
    rw answer (first_is_lowest c.args.rooms.now c.args.parts)
