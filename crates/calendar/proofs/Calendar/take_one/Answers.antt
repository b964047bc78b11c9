use Rattle.std.proofs.Common.{Some, None, ap, ◌∙◌, rules}
use Rattle.calendar.specs.Queues.{queue, without}
use Rattle.calendar.specs.Places.{held, FoundAt}
use Rattle.calendar.proofs.Steps.{found, missed, taken}
use Rattle.calendar.proofs.Calendar.take_one.Goals as goal

pub returns-in_err-place-clause-ordered : goal.returns-in_err-place-clause-ordered
returns-in_err-place-clause-ordered g c =
    let xs = held c.args.self.now c.args.places.now in
    let away : FoundAt g.T.Order.before c.args.x xs None = search rules in
    missed g.met.T.Order.total c.args.x xs away

pub returns-clause-answer : goal.returns-clause-answer
returns-clause-answer g c =
    let at : FoundAt g.T.Order.before c.args.x (held c.args.self.now c.args.places.now) (Some c.in_ok-place.place) = search rules in
    let got = found g.met.T.Order.total c.args.self.now c.args.places.now c.in_ok-place.place c.args.x c.take_at.result at c.take_at.ensures.answer in
    rw got.1 (ap Some got.0)

pub returns-clause-ordered : goal.returns-clause-ordered
returns-clause-ordered g c =
    let o = g.met.T.Order.total in
    let cal = c.args.self.now in
    let out = c.take_at.ensures in
    let at : FoundAt g.T.Order.before c.args.x (held cal c.args.places.now) (Some c.in_ok-place.place) = search rules in
    let got = found o cal c.args.places.now c.in_ok-place.place c.args.x c.take_at.result at out.answer in
    taken o cal c.take_at.new.self c.args.places.now c.take_at.new.places c.in_ok-place.place c.take_at.result at.0 out.answer out.next out.written
    ∙ ap (λ z. without g.T.Order.before z (queue g.T.Order.before (held cal c.args.places.now))) got.0
