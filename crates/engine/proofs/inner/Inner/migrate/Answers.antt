use Rattle.std.proofs.Common.{◌≡◌, ◌<◌, ◌≤◌, false, sym, refl, ap, ◌∙◌, arith}
use Rattle.std.proofs.lemmas.Bool.Decides.{nat_tests}
use Rattle.std.proofs.lemmas.Grind.{common_steps}
use Rattle.terms.specs.declared.refusals.Refusal.TheVariants.{NoRoom, SameCore, Behind}
use Rattle.rules.specs.Parts.{room}
use Rattle.rules.specs.Server.{is_behind}
use Rattle.rules.specs.Calls.{refused, move}
use Rattle.table.specs.Calls.{transfer_live}
use Rattle.table.specs.View.{live_of}
use Rattle.engine.specs.Answers.{departure_said}
use Rattle.engine.specs.View.{view, bare}
use Rattle.engine.proofs.Following.{follows_refused, follows_handed, follows_answered}
use Rattle.engine.proofs.Departing.{found_row, departure_refused, departure_done, move_full, transfer_live_lem, departs_shown}
use Rattle.engine.proofs.Inners.{few}
use Rattle.engine.proofs.inner.Inner.migrate.Goals as goal

pub returns-in_err-place-clause-next : goal.returns-in_err-place-clause-next
unfolding move
returns-in_err-place-clause-next c =
    let none = c.in_err-place.ensures in
    follows_handed departure_said _ _ _ _ _ c.from_residual.ensures.1 (grind (arith, common_steps, nat_tests)) refl

pub returns-in_err-check_settled-clause-next : goal.returns-in_err-check_settled-clause-next
unfolding move
returns-in_err-check_settled-clause-next c =
    let there = c.in_ok-place.ensures in
    let out = c.in_err-check_settled.ensures in
    follows_handed departure_said _ _ _ _ _ c.from_residual-in_err-check_settled.ensures.1 (grind (arith, common_steps, nat_tests)) refl

pub returns-in_err-row-clause-next : goal.returns-in_err-row-clause-next
unfolding move
returns-in_err-row-clause-next c =
    let there = c.in_ok-place.ensures in
    let idle = c.in_ok-check_settled.ensures in
    let none = c.in_err-row.ensures in
    follows_handed departure_said _ _ _ _ _ c.from_residual-in_err-row.ensures.1 (grind (arith, common_steps, nat_tests)) refl

pub returns-then-row-core-clause-next : goal.returns-then-row-core-clause-next
unfolding move
returns-then-row-core-clause-next c =
    let there = c.in_ok-place.ensures in
    let idle = c.in_ok-check_settled.ensures in
    let row = c.in_ok-row.ensures in
    follows_refused c.args.self.now _ SameCore (grind (arith, common_steps, nat_tests))

pub returns-then-is_behind-clause-next : goal.returns-then-is_behind-clause-next
unfolding move
returns-then-is_behind-clause-next c =
    let there = c.in_ok-place.ensures in
    let idle = c.in_ok-check_settled.ensures in
    let row = c.in_ok-row.ensures in
    follows_refused c.args.self.now _ Behind (grind (arith, common_steps, nat_tests))

pub returns-then-room-row-clause-next : goal.returns-then-room-row-clause-next
unfolding move
returns-then-room-row-clause-next c =
    let there = c.in_ok-place.ensures in
    let idle = c.in_ok-check_settled.ensures in
    let row = c.in_ok-row.ensures in
    follows_refused c.args.self.now _ NoRoom (grind (arith, common_steps, nat_tests))

pub returns-in_err-departure-clause-next : goal.returns-in_err-departure-clause-next
unfolding move
returns-in_err-departure-clause-next c =
    let there = c.in_ok-place.ensures in
    let idle = c.in_ok-check_settled.ensures in
    let row = c.in_ok-row.ensures in
    let found = found_row _ _ row in
    let behind : is_behind (view c.args.self.now).clock c.in_ok-row.row ≡ false = ap (λ t. is_behind t c.in_ok-row.row) (sym c.clock.ensures.answer) ∙ sym c.if-is_behind.ensures in
    let fits : c.in_ok-row.row.parts ≤ room (bare c.args.whole.parts c.args.self.now) (view c.args.self.now) c.args.core = omega (arith, c.room.ensures ∙ ap (room (bare c.args.whole.parts c.args.self.now) (view c.args.self.now)) there.0) in
    let full = departure_refused (view c.args.self.now) c.in_ok-row.row _ c.in_err-departure.ensures.next.answer in
    follows_handed departure_said _ _ _ _ _ c.from_residual-in_err-departure.ensures.1 (move_full (bare c.args.whole.parts c.args.self.now) (view c.args.self.now) c.args.number c.args.core c.in_ok-row.row there.1 idle found c.if-row-core.false behind fits full.0 ∙ ap refused (sym full.1)) (c.in_err-departure.ensures.kept refl)

pub returns-clause-next : goal.returns-clause-next
unfolding move
returns-clause-next c =
    let i = c.args.self.now in
    let there = c.in_ok-place.ensures in
    let idle = c.in_ok-check_settled.ensures in
    let row = c.in_ok-row.ensures in
    let went = c.in_ok-departure.ensures.next in
    let done = departure_done (view i) c.in_ok-row.row c.in_ok-departure.departure went.answer in
    let eight : c.args.core < 8 = omega (arith, few i) in
    let found = found_row _ _ row in
    follows_answered i _ _ _ _ _ (grind (arith, common_steps, nat_tests)) done.1 (departs_shown i c.depart.new.self c.transfer.new.self c.in_ok-row.row _ _ went refl c.transfer.ensures.clock (c.transfer.ensures.live ∙ ap (λ t. transfer_live c.args.number c.args.core (live_of t)) went.table ∙ transfer_live_lem c.args.number c.args.core (live_of i.table) c.in_ok-row.row eight found)) went.rest.2 went.rest.3
