use Rattle.std.proofs.Common.{length, sym, ap, ◌∙◌, rules}
use Rattle.calendar.specs.Places.{held, LeastAt}
use Rattle.calendar.specs.Queues.{first, after}
use Rattle.calendar.proofs.Steps.{held_read, least_first, taken}
use Rattle.calendar.proofs.Calendar.take_least.Goals as goal

pub returns-clause-answer : goal.returns-clause-answer
returns-clause-answer g c =
    let xs = held c.args.self.now c.args.places.now in
    let lowest : LeastAt g.T.Order.before xs (length xs) c.in_ok-place.place = search rules in
    sym (ap first (least_first g.met.T.Order.total xs c.in_ok-place.place c.take_at.result lowest (held_read c.args.self.now c.args.places.now _ _ lowest.0 c.take_at.ensures.answer)))

pub returns-clause-ordered : goal.returns-clause-ordered
returns-clause-ordered g c =
    let o = g.met.T.Order.total in
    let xs = held c.args.self.now c.args.places.now in
    let out = c.take_at.ensures in
    let lowest : LeastAt g.T.Order.before xs (length xs) c.in_ok-place.place = search rules in
    let split = least_first o xs _ _ lowest (held_read c.args.self.now c.args.places.now _ _ lowest.0 out.answer) in
    taken o c.args.self.now c.take_at.new.self c.args.places.now c.take_at.new.places c.in_ok-place.place c.take_at.result lowest.0 out.answer out.next out.written ∙ sym (ap after split)
