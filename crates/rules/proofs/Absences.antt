-- What a call does of a number that is not live: it stays so and is not named, or the number is the next and is given.
use Rattle.std.proofs.Common.{◌≡◌, ℕ, ◌+◌, ◌<◌, ◌≤◌, Bool, true, false, ◌&&◌, ◌⊎◌, List, [], ◌∷◌, length, Some, None, sym, refl, ap, ◌∙◌, subst, inl, inr, arith}
use Rattle.std.specs.Option.{option_map}
use Rattle.std.proofs.lemmas.Bool.{cases_eq}
use Rattle.std.proofs.lemmas.Option.{none-some}
use Rattle.rules.specs.declared.types.Reservation.{Reservation}
use Rattle.rules.specs.declared.types.Call.{Call}
use Rattle.rules.specs.declared.types.Answer.{Answer}
use Rattle.rules.specs.Lists.{find, change}
use Rattle.rules.specs.Setup.{Setup}
use Rattle.rules.specs.System.{System}
use Rattle.rules.specs.Server.{on_core, woken, rested, charged_if, refilled}
use Rattle.rules.specs.Calls.{admitted}
use Rattle.rules.specs.Replay.{next, accepts, after}
use Rattle.rules.specs.Share.{is_settle, is_named, Lawful}
use Rattle.rules.proofs.Steps.{Step, admits, wakes, rests, leaves, moves, deals, settles, by_step}
use Rattle.rules.proofs.Finding.{found_number, find_change_other, find_without_other, find_push_same, find_push_other, find_map}
use Rattle.rules.proofs.Basics.{Basic, basic_next, woken_number, ticked_number}
use Rattle.rules.proofs.Picking.{not_named}

-- What a call does of the number n, which is not live: whether it has run, and the next state.
pub data Absence (n : ℕ) (σ : System) : Bool → System → Type 0 where
  absent : {σ' : System} → find n σ'.live ≡ None → (σ.given < n → σ'.given < n) → σ.given ≤ σ'.given → Absence n σ false σ'
  born : {σ' : System} → n ≡ σ.given + 1 → (r : Reservation) → find n σ'.live ≡ Some r → r.ran ≡ 0 → Absence n σ false σ'

module _ (s : Setup) (σ : System) (b : Basic s σ) (n : ℕ) (none : find n σ.live ≡ None) where
  refusal_absence : (tick run : Bool) → Absence n σ (tick && false && run) σ
  refusal_absence true run = absent none (λ l. l) (omega arith)
  refusal_absence false run = absent none (λ l. l) (omega arith)

  apart : (m : ℕ) (r : Reservation) → find m σ.live ≡ Some r → n ≡ m → ⊥
  apart m r found e = none-some _ (sym none ∙ ap (λ (k : ℕ). find k σ.live) e ∙ found)

  none_changed : (f : Reservation → Reservation) → ((y : Reservation) → (f y).number ≡ y.number) → (m : ℕ) (r : Reservation) → find m σ.live ≡ Some r → find n (change m (f r) σ.live) ≡ None
  none_changed f keep m r found = find_change_other n m (f r) σ.live (keep r ∙ found_number m σ.live r found) (apart m r found) ∙ none

  step_absence : (c : Call) (a : Answer) (σ' : System) → Step s σ c a σ' → Absence n σ (is_settle c && true && is_named n σ.names) σ'
  step_absence c a σ' (admits q p parts core limits taken settled place number chosen) = go (cases_eq n (σ.given + 1))
    where
      go : (n ≡ σ.given + 1) ⊎ (n ≡ σ.given + 1 → ⊥) → Absence n σ false σ'
      go (inl e) = born e (admitted σ q p parts core) (subst (λ (k : ℕ). find k σ'.live ≡ Some (admitted σ q p parts core)) (sym e) (find_push_same σ.live (admitted σ q p parts core) (subst (λ (k : ℕ). find k σ.live ≡ None) e none))) refl
      go (inr d) = absent (find_push_other n σ.live (admitted σ q p parts core) d ∙ none) (λ l. omega arith) (omega arith)
  step_absence c a σ' (wakes m r settled found resting) = absent (none_changed (woken σ.clock) (woken_number σ.clock) m r found) (λ l. l) (omega arith)
  step_absence c a σ' (rests m r settled found wants) = absent (none_changed rested (λ _. refl) m r found) (λ l. l) (omega arith)
  step_absence c a σ' (leaves m r settled found place) = absent (find_without_other n m σ.live (apart m r found) ∙ none) (λ l. l) (omega arith)
  step_absence c a σ' (moves m core r exists settled found other ahead fits place) = absent (none_changed (λ y. on_core y core) (λ _. refl) m r found) (λ l. l) (omega arith)
  step_absence c a σ' (deals settled going) = absent none (λ l. l) (omega arith)
  step_absence c a σ' (settles tick out right) = subst (λ (w : Bool). Absence n σ w σ') (sym unnamed) (absent (find_map _ (ticked_number σ.names (σ.clock + 1)) n σ.live ∙ ap (option_map (λ r. refilled (σ.clock + 1) (charged_if σ.names r))) none) (λ l. l) (omega arith))
    where
      unnamed : is_named n σ.names ≡ false
      unnamed = ap (is_named n) (b.dealt out) ∙ not_named 0 (length s.figures) n σ.live b.ascending none

  pub absence : (c : Call) → Absence n σ (is_settle c && accepts s σ c && is_named n σ.names) (next s σ c)
  absence c = by_step s σ c (λ t _ σ'. Absence n σ (is_settle c && t && is_named n σ.names) σ') (λ _. refusal_absence (is_settle c) (is_named n σ.names)) (step_absence c)

still_gone : (n : ℕ) (σ : System) (run : Bool) (σ' : System) → Absence n σ run σ' → n ≤ σ.given → (find n σ'.live ≡ None) × (n ≤ σ'.given)
still_gone n σ run σ' (absent none later given) l = (none, omega arith)
still_gone n σ run σ' (born e r live ran) l = absurd (omega arith)

-- A number that was given and is not live is never live again.
pub gone_after : (s : Setup) → Lawful s → (σ : System) → Basic s σ → (n : ℕ) → n ≤ σ.given → find n σ.live ≡ None → (cs : List Call) → find n (after s σ cs).live ≡ None
gone_after s law σ b n l none [] = none
gone_after s law σ b n l none (c ∷ cs) =
    let gone = still_gone n σ _ (next s σ c) (absence s σ b n none c) l in
    gone_after s law (next s σ c) (basic_next s law σ c b) n gone.1 gone.0 cs
