-- Filled, and neither rested nor gone before its deadline, a reservation runs exactly its budget by then.
use Rattle.std.proofs.Common.{◌≡◌, ℕ, ◌+◌, ◌-◌, ◌<◌, ◌≤◌, Bool, true, false, cond, eqb, ◌⊎◌, List, [], ◌∷◌, ◌++◌, Some, refl, ap, ◌∙◌, subst, inl, inr, arith}
use Rattle.std.proofs.lemmas.Bool.{ne_eqb, and_right, and_left, cond-false, cases_lt}
use Rattle.rules.specs.declared.types.Reservation.{Reservation}
use Rattle.rules.specs.declared.types.State.{State}
use Rattle.rules.specs.declared.types.State.TheVariants.{Ready, Spent, Resting}
use Rattle.rules.specs.declared.types.Call.{Call}
use Rattle.rules.specs.Lists.{find}
use Rattle.rules.specs.Setup.{Setup}
use Rattle.rules.specs.System.{System, fresh}
use Rattle.rules.specs.Server.{is_ready, is_spent, is_resting, wanting, on_core, charged, is_due, refilled}
use Rattle.rules.specs.Replay.{next, after, replay}
use Rattle.rules.specs.Share.{ticks, runs, Stays, Filling, since, Lawful}
use Rattle.rules.proofs.Basics.{Basic, Fair, limited, fair_at, fair_run, basic, basic_next}
use Rattle.rules.proofs.Turns.{Turn, kept, woke, stopped, went, moved, passed, turn}
use Rattle.rules.proofs.Counts.{after_append, runs_le_ticks}
use Rattle.rules.proofs.Fillings.{Filled, filled_since}

-- Every ready reservation has its deadline ahead.
abbrev pub InTime : System → Type 0
InTime σ = (n : ℕ) (r : Reservation) → find n σ.live ≡ Some r → is_ready r.state ≡ true → σ.clock < r.deadline

-- x wants ticks, and its deadline is t.
record Serving (t : ℕ) (x : Reservation) : Type 0 where
  deadline : x.deadline ≡ t
  wants : is_resting x.state ≡ false

wanting_wants : (left : ℕ) → is_resting (wanting left) ≡ false
wanting_wants left = go (eqb left 0)
  where
    go : (w : Bool) → is_resting (cond w Spent Ready) ≡ false
    go true = refl
    go false = refl

serving_run : (t : ℕ) (x : Reservation) (run : Bool) → Serving t x → Serving t (cond run (charged x) x)
serving_run t x true i = record { deadline = i.deadline; wants = wanting_wants (x.left - 1) }
serving_run t x false i = i

-- One run is one less left.
run_left : (x : Reservation) (run : Bool) → (run ≡ true → 1 ≤ x.left) → x.left ≡ cond run 1 0 + (cond run (charged x) x).left
run_left x true some = let l = some refl in omega arith
run_left x false some = omega arith

ready_or_spent : (w : State) → is_resting w ≡ false → (is_ready w ≡ true) ⊎ ((is_ready w ≡ false) × (is_spent w ≡ true))
ready_or_spent Ready e = inl refl
ready_or_spent Spent e = inr (refl, refl)
ready_or_spent Resting e = cc

not_due : (t : ℕ) (y : Reservation) → (y.deadline ≡ t → ⊥) → refilled t y ≡ y
not_due t y d = cond-false (is_due t y) _ _ (and_right (is_spent y.state) _ (ne_eqb y.deadline t d))

ready_not_due : (t : ℕ) (y : Reservation) → is_ready y.state ≡ true → refilled t y ≡ y
ready_not_due t y e = cond-false (is_due t y) _ _ (and_left _ _ (go y.state e))
  where
    go : (w : State) → is_ready w ≡ true → is_spent w ≡ false
    go Ready e = refl
    go Spent e = cc
    go Resting e = refl

-- One turn of a reservation that serves until t.
turn_exact : (s : Setup) (n t : ℕ) (σ : System) (x : Reservation) → Fair s σ.clock σ.given x → Serving t x → σ.clock < t → (stop tick run : Bool) (σ' : System) → Turn n σ x stop tick run σ' → (stop ≡ false) → InTime σ' → (rest-ticks rest-runs : ℕ) → σ.clock + (cond tick 1 0 + rest-ticks) ≡ t → rest-runs ≤ rest-ticks → ((y : Reservation) → find n σ'.live ≡ Some y → Serving t y → σ'.clock < t → σ'.clock + rest-ticks ≡ t → rest-runs ≡ y.left) → cond run 1 0 + rest-runs ≡ x.left
turn_exact s n t σ x f i l stop tick run σ' (kept clock live) st in_time rt rr e le ih = omega (arith, ih x live i (omega arith) (omega arith))
turn_exact s n t σ x f i l stop tick run σ' (woke clock resting live) st in_time rt rr e le ih = cc
turn_exact s n t σ x f i l stop tick run σ' (stopped clock live) st in_time rt rr e le ih = cc
turn_exact s n t σ x f i l stop tick run σ' (went clock given none) st in_time rt rr e le ih = cc
turn_exact s n t σ x f i l stop tick run σ' (moved clock core live) st in_time rt rr e le ih = omega (arith, ih (on_core x core) live (record { deadline = i.deadline; wants = i.wants }) (omega arith) (omega arith))
turn_exact s n t σ x f i l stop tick run σ' (passed clock w ready live) st in_time rt rr e le ih = go (cases_lt (σ.clock + 1) t)
  where
    y : Reservation
    y = cond w (charged x) x

    serves : Serving t y
    serves = serving_run t x w i

    less : x.left ≡ cond w 1 0 + y.left
    less = run_left x w (λ h. f.ready (ready h))

    -- at the deadline it is spent
    spent : σ.clock + 1 ≡ t → y.left ≡ 0
    spent at = by (ready_or_spent y.state serves.wants)
      where
        by : (is_ready y.state ≡ true) ⊎ ((is_ready y.state ≡ false) × (is_spent y.state ≡ true)) → y.left ≡ 0
        by (inl h) = let due = serves.deadline in let ahead = in_time n y (live ∙ ap (λ (z : Reservation). Some z) (ready_not_due (σ.clock + 1) y h)) h in absurd (omega arith)
        by (inr h) = (fair_run s σ.clock σ.given x f w).spent h.1

    go : (σ.clock + 1 < t) ⊎ (t ≤ σ.clock + 1) → cond w 1 0 + rr ≡ x.left
    go (inl h) =
        let due = serves.deadline in
        let same : refilled (σ.clock + 1) y ≡ y = not_due (σ.clock + 1) y (λ d. omega arith) in
        omega (arith, less, ih y (live ∙ ap (λ (z : Reservation). Some z) same) serves (omega arith) (omega arith))
    go (inr h) = omega (arith, less, spent (omega arith))

exact_from : (s : Setup) → Lawful s → (n t : ℕ) (σ : System) → Basic s σ → ((cs : List Call) → InTime (after s σ cs)) → (x : Reservation) → find n σ.live ≡ Some x → Serving t x → σ.clock < t → (cs : List Call) → Stays s n t σ cs → σ.clock + ticks s σ cs ≡ t → runs s n σ cs ≡ x.left
exact_from s law n t σ b in_time x live i l [] stays e = absurd (omega arith)
exact_from s law n t σ b in_time x live i l (c ∷ cs) stays e =
    turn_exact s n t σ x (fair_at s σ b n x live) i l _ _ _ (next s σ c) (turn s σ b n x live c) (stays.0 l) (in_time (c ∷ [])) (ticks s (next s σ c) cs) (runs s n (next s σ c) cs) e (runs_le_ticks s n (next s σ c) cs)
    (λ y found j k m. exact_from s law n t (next s σ c) (basic_next s law σ c b) (λ ds. in_time (c ∷ ds)) y found j k cs stays.1 m)

ready_wants : (w : State) → is_ready w ≡ true → is_resting w ≡ false
ready_wants Ready e = refl
ready_wants Spent e = refl
ready_wants Resting e = cc

-- It runs exactly its budget from a filling to the deadline, where every ready reservation has its deadline ahead.
pub exact_law : (s : Setup) → Lawful s → ((past : List Call) → InTime (replay s past)) → (past : List Call) (c : Call) (n q p : ℕ) (later : List Call) → Filling s (replay s past) c n q p → Stays s n ((since s past c).clock + p) (since s past c) later → ticks s (since s past c) later ≡ p → runs s n (since s past c) later ≡ q
exact_law s law in_time past c n q p later f stays e =
    exact_from s law n (σ.clock + p) σ b always x.of x.live (record { deadline = x.due; wants = ready_wants x.of.state x.ready }) ahead later stays (ap (λ (k : ℕ). σ.clock + k) e) ∙ x.whole
  where
    σ : System
    σ = since s past c

    b : Basic s σ
    b = basic_next s law (replay s past) c (basic s law past)

    x : Filled σ n q p
    x = filled_since s (replay s past) c n q p f

    ahead : σ.clock < σ.clock + p
    ahead =
        let terms = limited x.of.budget x.of.period (fair_at s σ b n x.of x.live).limits in
        let low = terms.budget_low in
        let high = terms.budget_high in
        let period = x.period in
        omega arith

    always : (cs : List Call) → InTime (after s σ cs)
    always cs = subst InTime (after_append s (fresh s) past (c ∷ cs)) (in_time (past ++ c ∷ cs))
