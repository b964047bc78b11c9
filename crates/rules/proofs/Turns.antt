-- What a call does to one live reservation, and to one whose number is not yet given.
use Rattle.std.proofs.Common.{◌≡◌, ℕ, ◌+◌, ◌<◌, ◌≤◌, Bool, true, false, cond, ◌&&◌, eqb, ◌⊎◌, List, length, get_or, Some, None, Option, sym, refl, ap, ◌∙◌, subst, inl, inr, arith}
use Rattle.std.specs.Option.{option_map}
use Rattle.std.proofs.lemmas.Bool.{eqb-true, eqb-false, cases_eq}
use Rattle.std.proofs.lemmas.Option.{same_Some}
use Rattle.rules.specs.declared.types.Reservation.{Reservation}
use Rattle.rules.specs.declared.types.Call.{Call}
use Rattle.rules.specs.declared.types.Answer.{Answer}
use Rattle.rules.specs.Lists.{find, change, without}
use Rattle.rules.specs.Setup.{Setup}
use Rattle.rules.specs.System.{System}
use Rattle.rules.specs.Server.{is_ready, is_resting, on_core, woken, rested, charged, charged_if, is_name, refilled}
use Rattle.rules.specs.Dealing.{picks}
use Rattle.rules.specs.Replay.{next, accepts}
use Rattle.rules.specs.Share.{is_settle, stops, is_named}
use Rattle.rules.proofs.Steps.{Step, admits, wakes, rests, leaves, moves, deals, settles, by_step}
use Rattle.rules.proofs.Finding.{found_number, find_change_same, find_change_other, find_without_same, find_without_other, find_push_other, find_map}
use Rattle.rules.proofs.Basics.{Basic, fair_at, woken_number, ticked_number}
use Rattle.rules.proofs.Picking.{named_on_core, name_ready}

-- What a call does to the live reservation n, which was x: whether it is stopped, whether a tick passes, whether it has run, and the next state.
pub data Turn (n : ℕ) (σ : System) (x : Reservation) : Bool → Bool → Bool → System → Type 0 where
  kept : {σ' : System} → σ'.clock ≡ σ.clock → find n σ'.live ≡ Some x → Turn n σ x false false false σ'
  woke : {σ' : System} → σ'.clock ≡ σ.clock → is_resting x.state ≡ true → find n σ'.live ≡ Some (woken σ.clock x) → Turn n σ x false false false σ'
  stopped : {σ' : System} → σ'.clock ≡ σ.clock → find n σ'.live ≡ Some (rested x) → Turn n σ x true false false σ'
  went : {σ' : System} → σ'.clock ≡ σ.clock → n ≤ σ'.given → find n σ'.live ≡ None → Turn n σ x true false false σ'
  moved : {σ' : System} → σ'.clock ≡ σ.clock → (core : ℕ) → find n σ'.live ≡ Some (on_core x core) → Turn n σ x false false false σ'
  passed : {σ' : System} → σ'.clock ≡ σ.clock + 1 → (run : Bool) → (run ≡ true → is_ready x.state ≡ true) → find n σ'.live ≡ Some (refilled (σ.clock + 1) (cond run (charged x) x)) → Turn n σ x false true run σ'

module _ (s : Setup) (σ : System) (b : Basic s σ) (n : ℕ) (x : Reservation) (live : find n σ.live ≡ Some x) where
  refusal_turn : (stop tick run : Bool) → Turn n σ x (stop && false) (tick && false) (tick && false && run) σ
  refusal_turn true true run = kept refl live
  refusal_turn true false run = kept refl live
  refusal_turn false true run = kept refl live
  refusal_turn false false run = kept refl live

  -- A call on n is a call on x.
  same_one : (m : ℕ) (r : Reservation) → find m σ.live ≡ Some r → n ≡ m → r ≡ x
  same_one m r found e = same_Some _ _ (sym found ∙ ap (λ (k : ℕ). find k σ.live) (sym e) ∙ live)

  module _ (f : Reservation → Reservation) (keep : (y : Reservation) → (f y).number ≡ y.number) (m : ℕ) (r : Reservation) (found : find m σ.live ≡ Some r) where
    find_changed : n ≡ m → find n (change m (f r) σ.live) ≡ Some (f x)
    find_changed e = subst (λ (k : ℕ). find n (change k (f r) σ.live) ≡ Some (f x)) e (subst (λ (y : Reservation). find n (change n (f y) σ.live) ≡ Some (f x)) (sym (same_one m r found e)) (find_change_same n (f x) x σ.live (keep x ∙ found_number n σ.live x live) live))

    find_other : (n ≡ m → ⊥) → find n (change m (f r) σ.live) ≡ Some x
    find_other d = find_change_other n m (f r) σ.live (keep r ∙ found_number m σ.live r found) d ∙ live

  step_turn : (c : Call) (a : Answer) (σ' : System) → Step s σ c a σ' → Turn n σ x (stops n c && true) (is_settle c && true) (is_settle c && true && is_named n σ.names) σ'
  step_turn c a σ' (admits q p parts core limits taken settled place number chosen) =
      let high = (fair_at s σ b n x live).number_high in
      let same = found_number n σ.live x live in
      kept refl (find_push_other n σ.live _ (λ e. omega arith) ∙ live)
  step_turn c a σ' (wakes m r settled found resting) = go (cases_eq n m)
    where
      go : (n ≡ m) ⊎ (n ≡ m → ⊥) → Turn n σ x false false false σ'
      go (inl e) = woke refl (subst (λ (y : Reservation). is_resting y.state ≡ true) (same_one m r found e) resting) (find_changed (woken σ.clock) (woken_number σ.clock) m r found e)
      go (inr d) = kept refl (find_other (woken σ.clock) (woken_number σ.clock) m r found d)
  step_turn c a σ' (rests m r settled found wants) = go (eqb m n) refl
    where
      go : (w : Bool) → eqb m n ≡ w → Turn n σ x (w && true) false false σ'
      go true e = stopped refl (find_changed rested (λ _. refl) m r found (sym (eqb-true m n e)))
      go false e = kept refl (find_other rested (λ _. refl) m r found (λ h. eqb-false m n e (sym h)))
  step_turn c a σ' (leaves m r settled found place) = go (eqb m n) refl
    where
      go : (w : Bool) → eqb m n ≡ w → Turn n σ x (w && true) false false σ'
      go true e =
          let high = (fair_at s σ b n x live).number_high in
          let same = found_number n σ.live x live in
          went refl (omega arith) (subst (λ (k : ℕ). find n (without k σ.live) ≡ None) (sym (eqb-true m n e)) (find_without_same 0 n σ.live b.ascending))
      go false e = kept refl (find_without_other n m σ.live (λ h. eqb-false m n e (sym h)) ∙ live)
  step_turn c a σ' (moves m core r exists settled found other ahead fits place) = go (cases_eq n m)
    where
      go : (n ≡ m) ⊎ (n ≡ m → ⊥) → Turn n σ x false false false σ'
      go (inl e) = moved refl core (find_changed (λ y. on_core y core) (λ _. refl) m r found e)
      go (inr d) = kept refl (find_other (λ y. on_core y core) (λ _. refl) m r found d)
  step_turn c a σ' (deals settled going) = kept refl live
  step_turn c a σ' (settles tick out right) =
      passed refl (is_named n σ.names) ready
      (find_map (λ r. refilled (σ.clock + 1) (charged_if σ.names r)) (ticked_number σ.names (σ.clock + 1)) n σ.live ∙ ap (option_map (λ r. refilled (σ.clock + 1) (charged_if σ.names r))) live ∙ ap (λ (w : Bool). Some (refilled (σ.clock + 1) (cond w (charged x) x))) (sym named))
    where
      core_low : x.core < length s.figures
      core_low = (fair_at s σ b n x live).core

      ready : is_named n σ.names ≡ true → is_ready x.state ≡ true
      ready e = name_ready n x σ.live b.ascending live (length s.figures) core_low (sym (named_on_core n x σ.live b.ascending live (length s.figures) core_low) ∙ ap (is_named n) (sym (b.dealt out)) ∙ e)

      named : is_named n σ.names ≡ is_name x.number (get_or σ.names x.core None)
      named = subst (λ (ns : List (Option ℕ)). is_named n ns ≡ is_name x.number (get_or ns x.core None)) (sym (b.dealt out)) (named_on_core n x σ.live b.ascending live (length s.figures) core_low ∙ ap (λ (k : ℕ). is_name k (get_or (picks (length s.figures) σ.live) x.core None)) (sym (found_number n σ.live x live)))

  -- What any call does to a live reservation.
  pub turn : (c : Call) → Turn n σ x (stops n c && accepts s σ c) (is_settle c && accepts s σ c) (is_settle c && accepts s σ c && is_named n σ.names) (next s σ c)
  turn c = by_step s σ c (λ t _ σ'. Turn n σ x (stops n c && t) (is_settle c && t) (is_settle c && t && is_named n σ.names) σ') (λ _. refusal_turn (stops n c) (is_settle c) (is_named n σ.names)) (step_turn c)

-- What holds of the reservation after each kind of turn holds of the one found in the next state.
pub by_turn : (n : ℕ) (σ : System) (x : Reservation) (P : Bool → Reservation → Type 0) → P false x → (is_resting x.state ≡ true → P false (woken σ.clock x)) → P false (rested x) → ((core : ℕ) → P false (on_core x core)) → ((run : Bool) → (run ≡ true → is_ready x.state ≡ true) → P run (refilled (σ.clock + 1) (cond run (charged x) x))) → (stop tick run : Bool) (σ' : System) → Turn n σ x stop tick run σ' → (y : Reservation) → find n σ'.live ≡ Some y → P run y
by_turn n σ x P as_is by-wake by-rest by_move by-tick stop tick run σ' (kept clock live) y h = subst (P false) (same_Some _ _ (sym live ∙ h)) as_is
by_turn n σ x P as_is by-wake by-rest by_move by-tick stop tick run σ' (woke clock resting live) y h = subst (P false) (same_Some _ _ (sym live ∙ h)) (by-wake resting)
by_turn n σ x P as_is by-wake by-rest by_move by-tick stop tick run σ' (stopped clock live) y h = subst (P false) (same_Some _ _ (sym live ∙ h)) by-rest
by_turn n σ x P as_is by-wake by-rest by_move by-tick stop tick run σ' (went clock given none) y h = cc
by_turn n σ x P as_is by-wake by-rest by_move by-tick stop tick run σ' (moved clock core live) y h = subst (P false) (same_Some _ _ (sym live ∙ h)) (by_move core)
by_turn n σ x P as_is by-wake by-rest by_move by-tick stop tick run σ' (passed clock w ready live) y h = subst (P w) (same_Some _ _ (sym live ∙ h)) (by-tick w ready)

-- One that is not live any more has left.
pub turn_gone : (n : ℕ) (σ : System) (x : Reservation) (stop tick run : Bool) (σ' : System) → Turn n σ x stop tick run σ' → find n σ'.live ≡ None → n ≤ σ'.given
turn_gone n σ x stop tick run σ' (kept clock live) h = cc
turn_gone n σ x stop tick run σ' (woke clock resting live) h = cc
turn_gone n σ x stop tick run σ' (stopped clock live) h = cc
turn_gone n σ x stop tick run σ' (went clock given none) h = given
turn_gone n σ x stop tick run σ' (moved clock core live) h = cc
turn_gone n σ x stop tick run σ' (passed clock w ready live) h = cc
