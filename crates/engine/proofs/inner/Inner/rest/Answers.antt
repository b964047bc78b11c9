use Rattle.std.proofs.Common.{refl, arith}
use Rattle.std.proofs.lemmas.Grind.{common_steps}
use Rattle.rules.specs.declared.types.Answer.TheVariants.{Left}
use Rattle.rules.specs.Calls.{rest}
use Rattle.engine.specs.View.{view}
use Rattle.engine.proofs.Following.{follows_handed, follows_result, rest_table}
use Rattle.engine.proofs.Inners.{inner_same}
use Rattle.engine.proofs.inner.Inner.rest.Goals as goal

pub returns-in_err-check_settled-clause-next : goal.returns-in_err-check_settled-clause-next
unfolding rest
returns-in_err-check_settled-clause-next c =
    let out = c.in_err-check_settled.ensures in
    follows_handed Left _ _ _ _ _ c.from_residual.ensures.1 (grind (arith, common_steps)) refl

pub returns-clause-next : goal.returns-clause-next
returns-clause-next c =
    let idle = c.in_ok-check_settled.ensures in
    let told = c.rest.ensures in
    follows_result Left c.args.self.now _ _ _ _ _ (rest_table (view c.args.self.now) c.args.number idle) told.answer (λ e. inner_same _ _ refl refl (told.same e) refl refl refl) (record { clock = told.clock; live = told.live; ledger = refl; given = refl; out = refl; names = refl }) refl refl
