use Rattle.std.proofs.Common.{◌≡◌, rules}
use Rattle.policy.specs.Choices.{worst_fit}
use Rattle.policy.specs.Chosen.{worst_has_most}
use Rattle.policy.proofs.fits.WorstFitPolicy.choose.Goals as goal

pub returns-clause-most : goal.returns-clause-most
returns-clause-most c =
    let answer : c.pick.result ≡ worst_fit c.args.rooms.now c.args.parts = search rules in
    rw answer (worst_has_most c.args.rooms.now c.args.parts)
