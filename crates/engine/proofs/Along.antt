-- Runs one after another.
use Rattle.std.proofs.Common.{◌≡◌, List, [], ◌∷◌, ◌++◌, Option, sym, refl, ap, ◌∙◌, subst, append_assoc, append-nil}
use Rattle.rules.specs.declared.types.Call.{Call}
use Rattle.rules.specs.Setup.{Setup}
use Rattle.rules.specs.System.{System, fresh}
use Rattle.rules.specs.Replay.{Told, told, next, heard, after, replay}
use Rattle.rules.proofs.Counts.{after_append}
use Rattle.engine.specs.declared.answers.Round.{Round}
use Rattle.engine.specs.Along.{InHand, Along}
use Rattle.engine.specs.Shown.{Same}

-- What is heard of two lists of calls, one after the other.
pub heard_append : (s : Setup) (σ : System) (xs ys : List Call) → heard s σ (xs ++ ys) ≡ heard s σ xs ++ heard s (after s σ xs) ys
heard_append s σ [] ys = refl
heard_append s σ (x ∷ xs) ys =
    ap (λ l. told s σ x ++ l) (heard_append s (next s σ x) xs ys) ∙ sym (append_assoc (told s σ x) (heard s (next s σ x) xs) (heard s (after s (next s σ x) xs) ys))

-- The replay of two lists of calls, one after the other.
pub replay_append : (s : Setup) (xs ys : List Call) → replay s (xs ++ ys) ≡ after s (replay s xs) ys
replay_append s xs ys = after_append s (fresh s) xs ys

module _ {O : Type 0} (shows : O → List Told → Type 0) (s : Setup) (past : List Call) where
  -- No call was made.
  pub along_none : (o : O) (τ : System) (h : Option Round) → Same τ (replay s past) → InHand h (replay s past) → Along shows s past [] o τ h o
  along_none o τ h shown hand = record {
    shown = subst (λ cs. Same τ (replay s cs)) (sym (append-nil past)) shown;
    hand = subst (λ cs. InHand h (replay s cs)) (sym (append-nil past)) hand;
    observed = λ l seen. subst (shows o) (sym (append-nil l)) seen;
  }

  -- One part of a run after another.
  pub along_more : (xs ys : List Call) (o o₁ o₂ : O) (σ τ : System) (g h : Option Round) → Along shows s past xs o σ g o₁ → Along shows s (past ++ xs) ys o₁ τ h o₂ → Along shows s past (xs ++ ys) o τ h o₂
  along_more xs ys o o₁ o₂ σ τ g h a b = record {
    shown = subst (λ cs. Same τ (replay s cs)) (append_assoc past xs ys) b.shown;
    hand = subst (λ cs. InHand h (replay s cs)) (append_assoc past xs ys) b.hand;
    observed = λ l seen.
        subst (shows o₂)
        (append_assoc l (heard s (replay s past) xs) (heard s (replay s (past ++ xs)) ys) ∙ ap (λ k. l ++ (heard s (replay s past) xs ++ k)) (ap (λ σ₁. heard s σ₁ ys) (replay_append s past xs)) ∙ ap (λ k. l ++ k) (sym (heard_append s (replay s past) xs ys)))
        (b.observed (l ++ heard s (replay s past) xs) (a.observed l seen));
  }
