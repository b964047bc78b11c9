use Rattle.std.proofs.Common.{arith}
use Rattle.std.proofs.lemmas.Bool.Decides.{nat_tests}
use Rattle.calendar.proofs.Steps.{put_ordered}
use Rattle.calendar.proofs.Calendar.put.Goals as goal

pub returns-clause-ordered : goal.returns-clause-ordered
returns-clause-ordered g c =
    let filed = put_ordered g.met.T.Order.total c.args.places.now c.args.self.now.count c.args.x c.if-self-places.false in
    grind (arith, nat_tests)
