-- What a call on the table or the ledger comes to in the model.
use Rattle.std.proofs.Common.{◌≡◌, ℕ, Bool, true, false, cond, not, is_err, IsErrAnd, Some, None, Ok, Err, Option, Result, sym, refl, ap, ◌∙◌, subst}
use Rattle.terms.specs.declared.refusals.Refusal.{Refusal}
use Rattle.terms.specs.declared.refusals.Refusal.TheVariants.{RoundOut, NoReservation, NotResting, Resting as AlreadyResting}
use Rattle.rules.specs.declared.types.Reservation.{Reservation}
use Rattle.rules.specs.declared.types.State.{State}
use Rattle.rules.specs.declared.types.Answer.{Answer}
use Rattle.rules.specs.declared.types.Answer.TheVariants.{Refused, Awake, Left}
use Rattle.rules.specs.Lists.{find, change}
use Rattle.rules.specs.System.{System, with_live}
use Rattle.rules.specs.Server.{is_resting, woken, rested}
use Rattle.rules.specs.Calls.{Outcome, refused, answered, check, given_by, on_live, wake, rest}
use Rattle.rules.specs.Replay.{state_after, answer_of}
use Rattle.table.specs.Calls.{of_live, in_live, wake_answer, wake_live, rest_answer, rest_live}
use Rattle.engine.specs.declared.inner.Inner.{Inner}
use Rattle.engine.specs.Answers.{answer_by}
use Rattle.engine.specs.Shown.{Same}
use Rattle.engine.specs.View.{view, figures_of, Follows}
use Rattle.engine.proofs.Alike.{same_refl}

-- A refusal of the model leaves the figures as they were.
pub follows_refused : (i : Inner) (o : Outcome) (n : Refusal) → o ≡ refused n → Follows i o (Refused n) i
follows_refused i o n e = record {
  answer = ap answer_of (sym e);
  next = subst (λ o₁. Same (view i) (state_after (view i) o₁)) (sym e) (same_refl (view i));
  figures = refl;
  start = refl;
}

-- A refusal of the model, on figures that are as they were.
pub follows_kept : (i i' : Inner) (o : Outcome) (n : Refusal) → o ≡ refused n → i' ≡ i → Follows i o (Refused n) i'
follows_kept i i' o n e kept = subst (Follows i o (Refused n)) (sym kept) (follows_refused i o n e)

-- A refusal that `?` hands on: the model refuses alike, and the figures are as they were.
pub follows_handed : {X : Type 0} (f : X → Answer) (i i' : Inner) (o : Outcome) (n : Refusal) (r : Result X Refusal) → IsErrAnd r (λ m. m ≡ n) → o ≡ refused n → i' ≡ i → Follows i o (answer_by f r) i'
follows_handed f i i' o n (Ok x) h e kept = absurd h
follows_handed f i i' o n (Err m) h e kept = follows_kept i i' o m (e ∙ ap refused (sym h)) kept

-- The outcome of a result, with the state where it is none of refusal.
abbrev pub outcome_by : {X : Type 0} → (X → Answer) → Result X Refusal → System → Outcome
outcome_by f (Ok x) τ = answered (f x) τ
outcome_by f (Err n) τ = refused n

-- Waking on the table is waking in the model.
pub wake_table : (σ : System) (n : ℕ) → σ.out ≡ false → wake σ n ≡ outcome_by {X = State × ℕ} (λ x. Awake x.0 x.1) (wake_answer n σ.clock σ.live) (with_live σ (wake_live n σ.clock σ.live))
unfolding wake
wake_table σ n e = settles ∙ found (find n σ.live)
  where
    goes : Reservation → Outcome
    goes r = check (is_resting r.state) NotResting (answered (Awake (woken σ.clock r).state (woken σ.clock r).deadline) (with_live σ (change n (woken σ.clock r) σ.live)))

    settles : on_live σ n goes ≡ given_by (find n σ.live) NoReservation goes
    settles = ap (λ b. check (not b) RoundOut (given_by (find n σ.live) NoReservation goes)) e

    either : (r : Reservation) (b : Bool) → check b NotResting (answered (Awake (woken σ.clock r).state (woken σ.clock r).deadline) (with_live σ (change n (woken σ.clock r) σ.live))) ≡ outcome_by {X = State × ℕ} (λ x. Awake x.0 x.1) (cond b (Ok ((woken σ.clock r).state, (woken σ.clock r).deadline)) (Err NotResting)) (with_live σ (cond b (change n (woken σ.clock r) σ.live) σ.live))
    either r true = refl
    either r false = refl

    found : (f : Option Reservation) → given_by f NoReservation goes ≡ outcome_by {X = State × ℕ} (λ x. Awake x.0 x.1) (of_live f λ r. cond (is_resting r.state) (Ok ((woken σ.clock r).state, (woken σ.clock r).deadline)) (Err NotResting)) (with_live σ (in_live f σ.live λ r. cond (is_resting r.state) (change n (woken σ.clock r) σ.live) σ.live))
    found None = refl
    found (Some r) = either r (is_resting r.state)

-- Resting on the table is resting in the model.
pub rest_table : (σ : System) (n : ℕ) → σ.out ≡ false → rest σ n ≡ outcome_by Left (rest_answer n σ.live) (with_live σ (rest_live n σ.live))
unfolding rest
rest_table σ n e = settles ∙ found (find n σ.live)
  where
    goes : Reservation → Outcome
    goes r = check (not (is_resting r.state)) AlreadyResting (answered (Left r.left) (with_live σ (change n (rested r) σ.live)))

    settles : on_live σ n goes ≡ given_by (find n σ.live) NoReservation goes
    settles = ap (λ b. check (not b) RoundOut (given_by (find n σ.live) NoReservation goes)) e

    either : (r : Reservation) (b : Bool) → check (not b) AlreadyResting (answered (Left r.left) (with_live σ (change n (rested r) σ.live))) ≡ outcome_by Left (cond b (Err AlreadyResting) (Ok r.left)) (with_live σ (cond b σ.live (change n (rested r) σ.live)))
    either r true = refl
    either r false = refl

    found : (f : Option Reservation) → given_by f NoReservation goes ≡ outcome_by Left (of_live f λ r. cond (is_resting r.state) (Err AlreadyResting) (Ok r.left)) (with_live σ (in_live f σ.live λ r. cond (is_resting r.state) σ.live (change n (rested r) σ.live)))
    found None = refl
    found (Some r) = either r (is_resting r.state)

-- An outcome by a result: answered where the result is a value, and the state shown is then the one named.
pub follows_by : {X : Type 0} (f : X → Answer) (i i' : Inner) (o : Outcome) (res : Result X Refusal) (x : X) (τ : System) → o ≡ outcome_by f res τ → res ≡ Ok x → Same (view i') τ → figures_of i' ≡ figures_of i → i'.start ≡ i.start → Follows i o (f x) i'
follows_by f i i' o res x τ e k shown figures start = record {
  answer = sym (ap answer_of (e ∙ ap (λ r. outcome_by f r τ) k));
  next = subst (λ o₁. Same (view i') (state_after (view i) o₁)) (sym (e ∙ ap (λ r. outcome_by f r τ) k)) shown;
  figures = figures;
  start = start;
}

-- The figures follow the model's outcome by a result: as they were where it is a refusal, and else showing the state named.
pub follows_result : {X : Type 0} (f : X → Answer) (i i' : Inner) (o : Outcome) (res ans : Result X Refusal) (τ : System) → o ≡ outcome_by f ans τ → res ≡ ans → (is_err res ≡ true → i' ≡ i) → Same (view i') τ → figures_of i' ≡ figures_of i → i'.start ≡ i.start → Follows i o (answer_by f res) i'
follows_result f i i' o (Ok x) ans τ e k same shown figures start = follows_by f i i' o ans x τ e (sym k) shown figures start
follows_result f i i' o (Err n) ans τ e k same shown figures start = follows_kept i i' o n (e ∙ ap (λ r. outcome_by f r τ) (sym k)) (same refl)

-- An accepted outcome: the answer is the model's, and its state is shown.
pub follows_answered : (i i' : Inner) (o : Outcome) (a b : Answer) (τ : System) → o ≡ answered b τ → a ≡ b → Same (view i') τ → figures_of i' ≡ figures_of i → i'.start ≡ i.start → Follows i o a i'
follows_answered i i' o a b τ e k shown figures start = record {
  answer = k ∙ sym (ap answer_of e);
  next = subst (λ o₁. Same (view i') (state_after (view i) o₁)) (sym e) shown;
  figures = figures;
  start = start;
}
