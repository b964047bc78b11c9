-- What an engine over a measure and a policy shows.
use Rattle.std.specs.Prelude.{◌≡◌, ℕ, List, Some, None, Ok, Err, Option, Result}
use Rattle.rules.specs.Setup.{Setup, setup_of, making}
use Rattle.rules.specs.System.{System, fresh}
use Rattle.rules.specs.Share.{ShareLaw}
use Rattle.engine.specs.declared.answers.Unmade.{Unmade}
use Rattle.engine.specs.declared.engine.Engine.{Engine}
use Rattle.engine.specs.View.{view, figures_of}

module _ {M P : Type 0} where
  -- The setup that it was made from, by the meanings of its measure and its policy.
  abbrev pub setup : (M → ℕ) → (M → ℕ → ℕ → Option ℕ) → (P → List ℕ → ℕ → Option ℕ) → Engine M P → Setup
  setup whole price choice e =
      setup_of (whole e.measure) (price e.measure) (choice e.policy) (figures_of e.inner) e.inner.start

  -- The state that it shows.
  abbrev pub shown : Engine M P → System
  shown e = view e.inner

  -- An engine of this setup just made, of this measure and this policy.
  pub record Made (s : Setup) (m : M) (p : P) (e : Engine M P) : Type 0 where
    pub accepted : making s.figures s.start ≡ None
    pub measure : e.measure ≡ m
    pub policy : e.policy ≡ p
    pub figures : figures_of e.inner ≡ s.figures
    pub start : e.inner.start ≡ s.start
    pub shown : shown e ≡ fresh s
    pub law : ShareLaw s

  -- The making of an engine of this setup is refused, and the measure and the policy are handed back.
  pub record NotMade (s : Setup) (m : M) (p : P) (u : Unmade M P) : Type 0 where
    pub refused : making s.figures s.start ≡ Some u.refusal
    pub measure : u.measure ≡ m
    pub policy : u.policy ≡ p

  -- The making of an engine.
  abbrev pub Making : Setup → M → P → Result (Engine M P) (Unmade M P) → Type 0
  Making s m p (Ok e) = Made s m p e
  Making s m p (Err u) = NotMade s m p u
