-- A reservation just filled: its whole budget is left, and its deadline is a period ahead.
use Rattle.std.proofs.Common.{◌≡◌, ℕ, ◌+◌, true, not, eqb, List, Some, Option, sym, refl, ap, ◌∙◌, subst, arith}
use Rattle.std.specs.Option.{option_map}
use Rattle.std.proofs.lemmas.Bool.{not-true, eqb-true, and_parts, cond-true, cond-false, cond_both}
use Rattle.std.proofs.lemmas.Option.{same_Some}
use Rattle.rules.specs.declared.types.Reservation.{Reservation}
use Rattle.rules.specs.declared.types.Call.{Call}
use Rattle.rules.specs.declared.types.Answer.{Answer}
use Rattle.rules.specs.Lists.{find}
use Rattle.rules.specs.Setup.{Setup}
use Rattle.rules.specs.System.{System}
use Rattle.rules.specs.Server.{is_ready, is_spent, filled_to, keeps, woken, charged_if, is_due, refilled}
use Rattle.rules.specs.Replay.{next}
use Rattle.rules.specs.Share.{fills, Filling}
use Rattle.rules.proofs.Steps.{Step, admits, wakes, rests, leaves, moves, deals, settles, by_step}
use Rattle.rules.proofs.Finding.{found_number, find_change_same, find_map}
use Rattle.rules.proofs.Basics.{ticked_number, woken_number}

-- The reservation n, whose terms are q in p, was just filled.
pub record Filled (σ : System) (n q p : ℕ) : Type 0 where
  pub of : Reservation
  pub live : find n σ.live ≡ Some of
  pub budget : of.budget ≡ q
  pub period : of.period ≡ p
  pub whole : of.left ≡ q
  pub due : of.deadline ≡ σ.clock + p
  pub ready : is_ready of.state ≡ true

-- What a filling to this deadline leaves.
filled_is : (σ : System) (n q p : ℕ) (x : Reservation) (deadline : ℕ) → find n σ.live ≡ Some (filled_to deadline x) → x.budget ≡ q → x.period ≡ p → deadline ≡ σ.clock + p → Filled σ n q p
filled_is σ n q p x deadline live budget period due = record { of = filled_to deadline x; live = live; budget = budget; period = period; whole = budget; due = due; ready = refl }

charged_budget : (names : List (Option ℕ)) (x : Reservation) → (charged_if names x).budget ≡ x.budget
charged_budget names x = cond_both _ _ _ (λ (z : Reservation). z.budget ≡ x.budget) (λ _. refl) (λ _. refl)

charged_period : (names : List (Option ℕ)) (x : Reservation) → (charged_if names x).period ≡ x.period
charged_period names x = cond_both _ _ _ (λ (z : Reservation). z.period ≡ x.period) (λ _. refl) (λ _. refl)

module _ (s : Setup) (σ : System) (n q p : ℕ) (x : Reservation) (live : find n σ.live ≡ Some x) (budget : x.budget ≡ q) (period : x.period ≡ p) where
  step_fills : (c : Call) (a : Answer) (σ' : System) → Step s σ c a σ' → fills σ c x ≡ true → Filled σ' n q p
  step_fills c a σ' (admits _ _ parts core limits taken settled place number chosen) e = cc
  step_fills c a σ' (wakes m r settled found resting) e =
      let parts = and_parts (eqb m x.number) (not (keeps σ.clock x)) e in
      let m≡n : m ≡ n = eqb-true m x.number parts.0 ∙ found_number n σ.live x live in
      let r≡x : r ≡ x = same_Some _ _ (sym found ∙ ap (λ (k : ℕ). find k σ.live) m≡n ∙ live) in
      let fill : woken σ.clock r ≡ filled_to (σ.clock + x.period) x = ap (woken σ.clock) r≡x ∙ cond-false (keeps σ.clock x) _ _ (not-true (keeps σ.clock x) parts.1) in
      filled_is σ' n q p x (σ.clock + x.period) (subst (λ (k : ℕ). find k σ'.live ≡ Some (filled_to (σ.clock + x.period) x)) m≡n (find_change_same m (woken σ.clock r) r σ.live (woken_number σ.clock r ∙ found_number m σ.live r found) found ∙ ap (λ (z : Reservation). Some z) fill)) budget period (ap (λ (k : ℕ). σ.clock + k) period)
  step_fills c a σ' (rests m r settled found wants) e = cc
  step_fills c a σ' (leaves m r settled found place) e = cc
  step_fills c a σ' (moves m core r exists settled found other ahead fits place) e = cc
  step_fills c a σ' (deals settled going) e = cc
  step_fills c a σ' (settles tick out right) e =
      let y : Reservation = charged_if σ.names x in
      let d : y.deadline ≡ σ.clock + 1 = eqb-true y.deadline (σ.clock + 1) (and_parts (is_spent y.state) (eqb y.deadline (σ.clock + 1)) e).1 in
      let per : y.period ≡ p = charged_period σ.names x ∙ period in
      filled_is σ' n q p y (y.deadline + y.period) (find_map (λ r. refilled (σ.clock + 1) (charged_if σ.names r)) (ticked_number σ.names (σ.clock + 1)) n σ.live ∙ ap (option_map (λ r. refilled (σ.clock + 1) (charged_if σ.names r))) live ∙ ap (λ (z : Reservation). Some z) (cond-true (is_due (σ.clock + 1) y) _ _ e)) (charged_budget σ.names x ∙ budget) per (omega arith)

-- What a filling call leaves.
pub filled_since : (s : Setup) (σ : System) (c : Call) (n q p : ℕ) → Filling s σ c n q p → Filled (next s σ c) n q p
filled_since s σ c n q p f = by_step s σ c (λ t _ σ'. t ≡ true → Filled σ' n q p) (λ _ e. cc) (λ a σ' t _. step_fills s σ n q p f.of f.live f.budget f.period c a σ' t f.filled) f.accepted
