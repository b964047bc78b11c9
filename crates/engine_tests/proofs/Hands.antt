-- What a settle makes of the rounds in hand.
use Rattle.std.proofs.Common.{◌≡◌, ℕ, true, false, Some, None, Ok, Err, Option, Result, IsOk, sym, refl, ap, ◌∙◌}
use Rattle.std.proofs.lemmas.Bool.{both_ways}
use Rattle.rules.specs.declared.types.Call.TheVariants.{Settle}
use Rattle.rules.specs.declared.types.Answer.{Answer}
use Rattle.rules.specs.declared.types.Answer.TheVariants.{Clock}
use Rattle.rules.specs.Setup.{Setup}
use Rattle.rules.specs.System.{System}
use Rattle.rules.specs.Replay.{answer_of, next, reply}
use Rattle.rules.proofs.Steps.{Step, settles, by_step}
use Rattle.engine.specs.declared.answers.Round.{Round}
use Rattle.engine.specs.declared.answers.Unsettled.{Unsettled}
use Rattle.engine.specs.Answers.{settled}
use Rattle.engine.specs.Shown.{Performed}
use Rattle.engine.specs.Along.{InHand}
use Rattle.engine.proofs.Rounds.{settle_done}

settle_step : (s : Setup) (σ : System) (t n : ℕ) → Clock n ≡ reply s σ (Settle t) → ((next s σ (Settle t)).out ≡ false) × (σ.out ≡ true) × (t ≡ σ.clock)
settle_step s σ t n e =
    by_step s σ (Settle t) (λ _ a σ'. Clock n ≡ a → (σ'.out ≡ false) × (σ.out ≡ true) × (t ≡ σ.clock)) (λ m h. cc) go e
  where
    go : (a : Answer) (σ' : System) → Step s σ (Settle t) a σ' → Clock n ≡ a → (σ'.out ≡ false) × (σ.out ≡ true) × (t ≡ σ.clock)
    go a σ' (settles tick out right) h = (refl, out, right)

module _ {s : Setup} {σ τ : System} where
  -- The settle of the round in hand is not refused.
  pub settle_taken : (r : Round) (a : Result ℕ Unsettled) → Performed s σ (Settle r.tick) (settled a) τ → InHand (Some r) σ → IsOk a
  settle_taken r (Ok t) done held = refl
  settle_taken r (Err u) done held =
      let e = done.answer ∙ ap answer_of (settle_done σ r.tick held.0 held.1) in cc

  module _ (r : Round) (n : ℕ) (done : Performed s σ (Settle r.tick) (Clock n) τ) where
    -- Where another round is taken none is out then,
    pub taken_none : InHand None τ
    taken_none = done.next.out ∙ (settle_step s σ r.tick n done.answer).0

    -- and the round that was in hand bears the same tick.
    pub taken_other : (h : Option Round) (ρ : System) → InHand h σ → InHand (Some r) ρ → InHand h ρ
    taken_other None ρ mine other = absurd (both_ways σ.out mine (settle_step s σ r.tick n done.answer).1)
    taken_other (Some x) ρ mine other = (other.0, mine.1 ∙ sym (settle_step s σ r.tick n done.answer).2 ∙ other.1)
