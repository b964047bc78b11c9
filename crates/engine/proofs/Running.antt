-- A run is the course of its steps on an engine just made.
use Rattle.std.proofs.Common.{◌≡◌, ℕ, Bool, List, [], None, Option, sym, refl, ◌∙◌, subst}
use Rattle.rules.specs.Setup.{Setup, setup_of}
use Rattle.rules.specs.System.{fresh}
use Rattle.rules.specs.Replay.{Told}
use Rattle.engine.specs.declared.runs.Runner.{Runner}
use Rattle.engine.specs.declared.runs.Step.{Step}
use Rattle.engine.specs.Shown.{Same}
use Rattle.engine.specs.Engines.{setup, shown, Made}
use Rattle.engine.specs.Driving.{course}
use Rattle.engine.specs.Along.{InHand, Drives}
use Rattle.engine.specs.Driven.{Drove}
use Rattle.engine.specs.Running.{Ran}
use Rattle.engine.proofs.Alike.{same_refl}

module _ {M P O : Type 0} (whole : M → ℕ) (price : M → ℕ → ℕ → Option ℕ) (choice : P → List ℕ → ℕ → Option ℕ) (shows : O → List Told → Type 0) (m : M) (p : P) (figures : List ℕ) (start : ℕ) where
  abbrev s : Setup
  s = setup_of (whole m) (price m) (choice p) figures start

  pub ran : (steps : List Step) {r r' : Runner M P} {b : Bool} (complete : Bool) {o o' : O} → Made s m p r.engine → r.hand ≡ None → Drove whole price choice shows (λ s₁ σ. course s₁ σ steps) r o b r' o' → complete ≡ b → Ran whole price choice shows s steps o (record { engine = r'.engine; round = r'.hand; complete = complete }) o'
  ran steps {r} {r'} {b} complete {o} {o'} made empty drove flag =
      let same : setup whole price choice r.engine ≡ s = λ i. setup_of (whole (made.measure i)) (price (made.measure i)) (choice (made.policy i)) (made.figures i) (made.start i) in
      let drives = subst (λ s₁. Drives shows s₁ (λ σ. course s₁ σ steps) (shown r.engine) r.hand o (shown r'.engine) r'.hand b o') same drove.drives in
      let d = drives [] (subst (Same (shown r.engine)) made.shown (same_refl (shown r.engine))) (subst (λ h. InHand h (fresh s)) (sym empty) refl) in
      record {
        accepted = made.accepted;
        setup = drove.made ∙ same;
        law = made.law;
        shown = d.0.shown;
        hand = d.0.hand;
        complete = flag ∙ d.1;
        observed = d.0.observed;
      }
