use Rattle.std.proofs.Common.{length, take, refl, ap, ◌∙◌, arith}
use Rattle.std.proofs.lemmas.Grind.{common_steps}
use Rattle.terms.specs.declared.refusals.Refusal.TheVariants.{ClockEnd}
use Rattle.rules.specs.declared.types.Answer.TheVariants.{Dealt}
use Rattle.rules.specs.Calls.{deal}
use Rattle.table.specs.Calls.{dealt}
use Rattle.table.specs.View.{clock_of, live_of}
use Rattle.engine.specs.View.{view, bare, figures_of}
use Rattle.engine.proofs.Following.{follows_kept, follows_handed, follows_answered}
use Rattle.engine.proofs.Inners.{inner_same, few}
use Rattle.engine.proofs.Rounds.{deal_end, deal_done, dealt_fits, dealt_take, going_on}
use Rattle.engine.proofs.inner.Inner.deal.Goals as goal

pub returns-in_err-check_settled-clause-next : goal.returns-in_err-check_settled-clause-next
unfolding deal
returns-in_err-check_settled-clause-next c =
    let out = c.in_err-check_settled.ensures in
    follows_handed (λ r. Dealt r.tick) _ _ _ _ _ c.from_residual.ensures.1 (grind (arith, common_steps)) refl

pub returns-then-tick-clause-next : goal.returns-then-tick-clause-next
returns-then-tick-clause-next c =
    let i = c.args.self.now in
    follows_kept i _ _ ClockEnd (deal_end (bare 0 i) (view i) c.in_ok-check_settled.ensures (omega (arith, c.clock-tick.ensures.answer, c.if-tick.true))) (inner_same _ _ refl refl refl refl refl refl)

pub invariant_of-self-2 : goal.invariant_of-self-2
invariant_of-self-2 c =
    let i = c.args.self.now in
    let names = c.picks.ensures ∙ ap (λ n. dealt n (live_of i.table)) c.len.ensures.value in
    record {
      made = i.made;
      numbered = i.numbered;
      named = dealt_fits (length (figures_of i)) (live_of i.table) (few i) c.picks.result names;
      lasts = going_on (clock_of i.table) (omega (arith, c.clock-tick.ensures.answer, c.clock-tick.ensures.high)) (λ e. omega (arith, c.if-tick.false, c.clock-tick.ensures.answer, e));
    }

pub returns-clause-next : goal.returns-clause-next
returns-clause-next c =
    let i = c.args.self.now in
    let tick = c.clock-tick.ensures.answer in
    let names = c.picks.ensures ∙ ap (λ n. dealt n (live_of i.table)) c.len.ensures.value in
    follows_answered i _ _ _ _ _ (deal_done (bare 0 i) (view i) c.in_ok-check_settled.ensures (λ e. omega (arith, c.if-tick.false, tick, e))) (ap Dealt tick) (record { clock = refl; live = refl; ledger = refl; given = refl; out = refl; names = ap (take (length (figures_of i))) names ∙ dealt_take (length (figures_of i)) (live_of i.table) (few i) }) refl refl
