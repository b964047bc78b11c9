use Rattle.std.proofs.Common.{◌≡◌, ◌+◌, ◌==◌, true, length, map, is_some, sym, refl, subst, ap, ◌∙◌, arith}
use Rattle.std.proofs.lemmas.Bool.{and_parts}
use Rattle.std.proofs.lemmas.Grind.{common_steps}
use Rattle.std.proofs.lemmas.Bool.Decides.{nat_tests}
use Rattle.calendar.specs.Queues.{queue}
use Rattle.terms.specs.declared.refusals.Refusal.TheVariants.{WrongRound}
use Rattle.rules.specs.declared.types.Answer.TheVariants.{Clock}
use Rattle.rules.specs.Order.{lapses_first}
use Rattle.rules.specs.Setup.{last_tick}
use Rattle.rules.specs.Server.{charged_if, refilled}
use Rattle.rules.specs.Calls.{settle}
use Rattle.ledger.specs.Entries.{entries, purged}
use Rattle.table.specs.View.{clock_of, live_of}
use Rattle.engine.specs.Limits.{fits_cores, none_from, names_out}
use Rattle.engine.specs.View.{view, figures_of}
use Rattle.engine.proofs.Following.{follows_kept, follows_answered}
use Rattle.engine.proofs.Inners.{inner_same}
use Rattle.engine.proofs.Rounds.{settle_other, settle_done, ticked_same, not_last, tick_answer_lem, tick_clock_lem, tick_live_lem}
use Rattle.engine.proofs.inner.Inner.settle.Goals as goal

pub returns-in-Some-clause-next : goal.returns-in-Some-clause-next
returns-in-Some-clause-next c =
    let i = c.args.self.now in
    let t = clock_of i.table in
    let n = length (figures_of i) in
    let out = ap is_some c.in-Some.is in
    let going : t ≡ last_tick → ⊥ = not_last (is_some i.round) t out i.lasts in
    let unnamed : none_from n c.in-Some.picks.names ≡ true = (and_parts (length c.in-Some.picks.names == 8) (none_from n c.in-Some.picks.names) (subst (λ p. fits_cores n p ≡ true) c.in-Some.is i.named)).1 in
    let told = c.tick.ensures in
    let later = tick_answer_lem t c.unwrap-clock.result going (sym c.unwrap-clock.ensures ∙ told.answer) in
    follows_answered i _ _ _ _ _ (settle_done (view i) c.args.round.tick out (omega (arith, c.if-round-clock.true, c.clock.ensures.answer))) (ap Clock later) (record {
      clock = told.clock ∙ tick_clock_lem t going;
      live = told.live ∙ tick_live_lem _ t _ going ∙ ticked_same n (t + 1) c.in-Some.picks.names (live_of i.table) unnamed ∙ ap (λ p. map (λ r. refilled (t + 1) (charged_if (names_out n p) r)) (live_of i.table)) (sym c.in-Some.is);
      ledger = c.purge.ensures ∙ ap (λ m. queue lapses_first (purged m (entries i.ledger))) later;
      given = refl;
      out = ap is_some c.take.ensures.after;
      names = ap (names_out n) c.take.ensures.after;
    }) refl refl

pub returns-in_default-clause-next : goal.returns-in_default-clause-next
returns-in_default-clause-next c =
    let i = c.args.self.now in
    follows_kept i _ _ WrongRound (settle_other (view i) c.args.round.tick (ap is_some c.in-Some.is) (λ e. c.if-round-clock.false (e ∙ sym c.clock.ensures.answer))) (inner_same _ _ refl refl refl refl refl refl)

pub returns-clause-next : goal.returns-clause-next
unfolding settle
returns-clause-next c =
    let i = c.args.self.now in
    follows_kept i _ _ WrongRound (grind (arith, common_steps, nat_tests)) (inner_same _ _ refl refl refl refl refl refl)
