use Rattle.std.proofs.Common.{sym, refl, arith}
use Rattle.std.proofs.lemmas.Grind.{common_steps}
use Rattle.rules.specs.declared.types.Answer.TheVariants.{Awake}
use Rattle.rules.specs.Calls.{wake}
use Rattle.engine.specs.View.{view}
use Rattle.engine.proofs.Following.{follows_handed, follows_by, wake_table}
use Rattle.engine.proofs.Inners.{inner_same}
use Rattle.engine.proofs.inner.Inner.wake.Goals as goal

pub returns-in_err-check_settled-clause-next : goal.returns-in_err-check_settled-clause-next
unfolding wake
returns-in_err-check_settled-clause-next c =
    let out = c.in_err-check_settled.ensures in
    follows_handed (λ w. Awake w.state w.deadline) _ _ _ _ _ c.from_residual.ensures.1 (grind (arith, common_steps)) refl

pub returns-in_err-state-clause-next : goal.returns-in_err-state-clause-next
unfolding wake
returns-in_err-state-clause-next c =
    let idle = c.in_ok-check_settled.ensures in
    let told = c.in_err-state.ensures in
    let answer = told.answer in
    follows_handed (λ w. Awake w.state w.deadline) _ _ _ _ _ c.from_residual-in_err-state.ensures.1 (grind (arith, common_steps)) (inner_same _ _ refl refl (told.same refl) refl refl refl)

pub returns-clause-next : goal.returns-clause-next
returns-clause-next c =
    let idle = c.in_ok-check_settled.ensures in
    let told = c.in_ok-state.ensures in
    follows_by (λ x. Awake x.0 x.1) c.args.self.now _ _ _ (c.in_ok-state.state, c.in_ok-state.deadline) _ (wake_table (view c.args.self.now) c.args.number idle) (sym told.answer) (record { clock = told.clock; live = told.live; ledger = refl; given = refl; out = refl; names = refl }) refl refl
