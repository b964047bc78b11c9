use Rattle.std.proofs.Common.{rules, tests, ◌∙◌}
use Rattle.std.proofs.lemmas.Iterator.{YieldsList-from_slice}
use Rattle.std.proofs.lemmas.Iterator.Consumers.{YieldsList-at, YieldsList-from_filter, count_from_yields_List}
use Rattle.calendar.specs.Orders.{alike}
use Rattle.calendar.specs.Places.{held}
use Rattle.calendar.proofs.Bags.{bag}
use Rattle.calendar.proofs.Counts.{copies_filter}
use Rattle.calendar.proofs.Calendar.copies_of.Goals as goal

pub returns-clause-answer : goal.returns-clause-answer
returns-clause-answer g c =
    let xs = held c.args.self.now c.args.places.now in
    let same = alike g.T.Order.before c.args.x in
    count_from_yields_List c.filter.result _ c.count.ensures.ran (YieldsList-from_filter _ same (YieldsList-at c.filter.ensures.source (YieldsList-from_slice xs cc)) c.filter.ensures.closure (λ y b q k. search (rules, tests)))
    ∙ copies_filter g.T.Order.before c.args.x xs

pub returns-clause-meaning : goal.returns-clause-meaning
returns-clause-meaning g c = bag g.met.T.Order.total (held c.args.self.now c.args.places.now)
