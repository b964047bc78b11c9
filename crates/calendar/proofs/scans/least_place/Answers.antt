use Rattle.std.proofs.Common.{◌≡◌, rules, tests}
use Rattle.std.specs.List.{enumerate_from, reduce}
use Rattle.std.specs.Option.{option_map}
use Rattle.std.proofs.lemmas.Iterator.{YieldsList-from_slice}
use Rattle.std.proofs.lemmas.Iterator.Consumers.{YieldsList-at, YieldsList-from_copied, YieldsList-from_enumerate}
use Rattle.calendar.proofs.Least.{lesser, reduced, scanned}
use Rattle.calendar.proofs.scans.least_place.Goals as goal

pub returns : goal.returns
returns g c =
    let xs = c.args.held.now in
    let at : c.reduce.result ≡ reduce (lesser g.T.Order.before) (enumerate_from 0 xs) =
    reduced _ (lesser g.T.Order.before) _ (λ p x q k h. search (rules, tests)) c.reduce.result c.reduce.ensures.ran (YieldsList-from_enumerate (YieldsList-at c.enumerate.ensures.source (YieldsList-from_copied (YieldsList-at c.copied.ensures.source (YieldsList-from_slice xs cc)))) c.enumerate.ensures.count) in
    let to : c.map.result ≡ option_map (λ p. p.0) (reduce (lesser g.T.Order.before) (enumerate_from 0 xs)) = search rules in
    rw to (scanned g.met.T.Order.total xs)
