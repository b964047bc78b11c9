-- The checks of admit, one after another.
use Rattle.std.proofs.Common.{◌≡◌, ℕ, ◌+◌, Bool, true, false, cond, Ok, Err, Result, sym, refl, ap, ◌∙◌, subst}
use Rattle.std.specs.Result.{result_unwrap_or}
use Rattle.terms.specs.declared.refusals.Refusal.{Refusal}
use Rattle.terms.specs.declared.refusals.Refusal.TheVariants.{Limits}
use Rattle.terms.specs.Limits.{in_limits}
use Rattle.terms.specs.Offer.{offer}
use Rattle.rules.specs.declared.types.Call.TheVariants.{Admit}
use Rattle.rules.specs.declared.types.Answer.TheVariants.{Placed}
use Rattle.rules.specs.Setup.{Setup, setup_of}
use Rattle.rules.specs.System.{System}
use Rattle.rules.specs.Parts.{rooms}
use Rattle.rules.specs.Calls.{answered, admitted, with_newcomer, admit}
use Rattle.rules.specs.Replay.{answer_of, state_after, reply, next}
use Rattle.engine.specs.declared.inner.Inner.{Inner}
use Rattle.engine.specs.View.{view, figures_of, bare}
use Rattle.engine.specs.Shown.{Same}
use Rattle.engine.proofs.Alike.{same_refl}

-- Terms made have the figures offered.
pub offer_taken : (q p budget period : ℕ) → ◌≡◌ {A = Result (ℕ × ℕ) Refusal} (Ok (budget, period)) (offer q p) → (in_limits q p ≡ true) × (budget ≡ q) × (period ≡ p)
offer_taken q p budget period e = go (in_limits q p) e
  where
    go : (b : Bool) → ◌≡◌ {A = Result (ℕ × ℕ) Refusal} (Ok (budget, period)) (cond b (Ok (q, p)) (Err Limits)) → (b ≡ true) × (budget ≡ q) × (period ≡ p)
    go true h =
        (refl, ap (λ r. (result_unwrap_or {T = ℕ × ℕ} r (0, 0)).0) h, ap (λ r. (result_unwrap_or {T = ℕ × ℕ} r (0, 0)).1) h)
    go false h = (cc, cc, cc)

-- The rooms by these figures and the measure's whole.
pub all_rooms : (whole : ℕ) (s : Setup) (i : Inner) → whole ≡ s.whole → s.figures ≡ figures_of i → rooms (bare whole i) (view i) ≡ rooms s (view i)
all_rooms whole s i same of = λ j. rooms (setup_of (same j) s.price s.choice (sym of j) s.start) (view i)

-- A reservation placed is the model's newcomer.
pub admit_performs : (s : Setup) (σ τ : System) (q p budget period parts core number core' : ℕ) → admit s σ q p ≡ answered (Placed (σ.given + 1) core) (with_newcomer σ (admitted σ q p parts core)) → number ≡ τ.given → core' ≡ core → τ ≡ with_newcomer σ (admitted σ budget period parts core) → budget ≡ q → period ≡ p → (Placed number core' ≡ reply s σ (Admit q p)) × Same τ (next s σ (Admit q p))
admit_performs s σ τ q p budget period parts core number core' done numbered cored shown budgeted timed =
    ((λ i. Placed ((numbered ∙ ap (λ υ. υ.given) shown) i) (cored i)) ∙ sym (ap answer_of done), subst (λ o. Same τ (state_after σ o)) (sym done) (subst (Same τ) (shown ∙ λ i. with_newcomer σ (admitted σ (budgeted i) (timed i) parts core)) (same_refl τ)))
