use Rattle.std.proofs.Common.{refl, ap, ◌∙◌, arith}
use Rattle.std.proofs.lemmas.Grind.{common_steps}
use Rattle.rules.specs.Lists.{without}
use Rattle.rules.specs.Calls.{leave}
use Rattle.table.specs.View.{live_of}
use Rattle.engine.specs.Answers.{departure_said}
use Rattle.engine.specs.View.{view}
use Rattle.engine.proofs.Following.{follows_handed, follows_answered}
use Rattle.engine.proofs.Departing.{departure_done, departs_shown}
use Rattle.engine.proofs.inner.Inner.leave.Goals as goal

pub returns-in_err-check_settled-clause-next : goal.returns-in_err-check_settled-clause-next
unfolding leave
returns-in_err-check_settled-clause-next c =
    let out = c.in_err-check_settled.ensures in
    follows_handed departure_said _ _ _ _ _ c.from_residual.ensures.1 (grind (arith, common_steps)) refl

pub returns-in_err-row-clause-next : goal.returns-in_err-row-clause-next
unfolding leave
returns-in_err-row-clause-next c =
    let idle = c.in_ok-check_settled.ensures in
    let none = c.in_err-row.ensures in
    follows_handed departure_said _ _ _ _ _ c.from_residual-in_err-row.ensures.1 (grind (arith, common_steps)) refl

pub returns-in_err-departure-clause-next : goal.returns-in_err-departure-clause-next
unfolding leave
returns-in_err-departure-clause-next c =
    let idle = c.in_ok-check_settled.ensures in
    let row = c.in_ok-row.ensures in
    let full = c.in_err-departure.ensures.next.answer in
    follows_handed departure_said _ _ _ _ _ c.from_residual-in_err-departure.ensures.1 (grind (arith, common_steps)) (c.in_err-departure.ensures.kept refl)

pub returns-clause-next : goal.returns-clause-next
unfolding leave
returns-clause-next c =
    let i = c.args.self.now in
    let idle = c.in_ok-check_settled.ensures in
    let row = c.in_ok-row.ensures in
    let went = c.in_ok-departure.ensures.next in
    let done = departure_done (view i) c.in_ok-row.row c.in_ok-departure.departure went.answer in
    follows_answered i _ _ _ _ _ (grind (arith, common_steps)) done.1 (departs_shown i c.depart.new.self c.remove.new.self c.in_ok-row.row _ _ went refl c.remove.ensures.clock (c.remove.ensures.live ∙ ap (λ t. without c.args.number (live_of t)) went.table)) went.rest.2 went.rest.3
