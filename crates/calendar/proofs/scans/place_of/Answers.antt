use Rattle.std.proofs.Common.{◌≡◌, true, false, rules, tests}
use Rattle.std.proofs.lemmas.Iterator.{IsFirst-from_position, YieldsList-from_slice}
use Rattle.calendar.specs.Orders.{alike}
use Rattle.calendar.proofs.Steps.{found_at}
use Rattle.calendar.proofs.scans.place_of.Goals as goal

pub returns : goal.returns
returns g c =
    let same = alike g.T.Order.before c.args.x in
    found_at g.met.T.Order.total c.args.x c.args.held.now c.position.result
    (IsFirst-from_position _ _ c.position.result (λ y. same y ≡ true) (λ y. same y ≡ false) c.position.ensures.ran (YieldsList-from_slice c.args.held.now cc) (λ y q k. search (rules, tests)) (λ y q k. search (rules, tests)))
