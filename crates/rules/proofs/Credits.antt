-- What a reservation may still claim before its deadline, and what its share gives it by then; and how each call changes the two.
-- Words: Measured, Kept, gain, owed, credit, held, due.
use Rattle.std.proofs.Common.{◌≡◌, ℕ, ◌+◌, ◌-◌, ◌*◌, ◌/◌, ◌<◌, ◌≤◌, Bool, true, false, cond, ◌&&◌, eqb, ltb, leb, refl, ap, ◌∙◌, ⊎_elim, mul-le-mul_left, mul-zero, le-div_iff_mul-le, arith}
use native.Mathlib.Nat.{one-le-mul}
use Rattle.std.proofs.lemmas.Bool.Decides.{nat_tests}
use Rattle.std.proofs.lemmas.Bool.{ltb-true, ltb-false, cases_lt}
use Rattle.rules.specs.declared.types.Reservation.{Reservation}
use Rattle.rules.specs.Server.{is_ready, is_spent, is_resting, wanting, served, on_core, filled_to, keeps, woken, rested, charged, is_due, refilled, lapse, is_behind}
use Rattle.rules.proofs.Weights.{one, one_low, rate, weight, rate_period, rate_weight, ahead, behind}

-- The terms are within their limits, and the parts cover their share of the whole w.
pub record Measured (w : ℕ) (r : Reservation) : Type 0 where
  pub budget_low : 1 ≤ r.budget
  pub period_low : 1 ≤ r.period
  pub period_high : r.period ≤ 1000000
  pub covers : r.budget * w ≤ r.parts * r.period

-- A ready reservation has budget left, a spent one none.
pub record Stocked (r : Reservation) : Type 0 where
  pub ready : is_ready r.state ≡ true → 1 ≤ r.left
  pub spent : is_spent r.state ≡ true → r.left ≡ 0

-- What the reservation gains at each tick.
abbrev pub gain : ℕ → Reservation → ℕ
gain w r = rate w r.budget r.period

-- What it may claim before its deadline.
abbrev pub owed : ℕ → Reservation → ℕ
owed w r = cond (is_ready r.state) (one w * r.left) 0

-- What it gains from the tick t up to its deadline, beyond the budget left.
abbrev pub credit : ℕ → ℕ → Reservation → ℕ
credit w t r = gain w r * (r.deadline - t) - one w * r.left

-- What its share gives it from the tick t up to its deadline: at rest only what is beyond the budget left.
abbrev pub held : ℕ → ℕ → Reservation → ℕ
held w t r = cond (is_resting r.state) (credit w t r) (gain w r * (r.deadline - t))

-- x where the reservation is on core c with a deadline up to d, else nothing.
abbrev pub due : ℕ → ℕ → Reservation → ℕ → ℕ
due c d r x = cond (eqb r.core c && leb r.deadline d) x 0

-- From the lapse tick on there is no credit.
pub lapsed : (w t : ℕ) (r : Reservation) → Measured w r → lapse r ≤ t → credit w t r ≡ 0
lapsed w t r m h =
    let far : r.deadline - t ≤ r.left * r.period / r.budget = omega arith in
    let share : (r.deadline - t) * r.budget ≤ r.left * r.period = (le-div_iff_mul-le m.budget_low).0 far in
    let less = behind w r.budget r.period r.left (r.deadline - t) m.period_low m.period_high share in
    omega arith

-- From the deadline on nothing is held, and there is no credit.
pub past : (w t : ℕ) (r : Reservation) → r.deadline ≤ t → (held w t r ≡ 0) × (credit w t r ≡ 0)
past w t r h =
    let over : r.deadline - t ≡ 0 = omega arith in
    let none : gain w r * (r.deadline - t) ≡ 0 = ap (λ (n : ℕ). gain w r * n) over ∙ mul-zero (gain w r) in
    (grind (arith, nat_tests), omega arith)

-- Up to the clock itself nothing is held, and there is no credit.
pub none_due : (w t c : ℕ) (r : Reservation) → (due c t r (held w t r) ≡ 0) × (due c t r (credit w t r) ≡ 0)
none_due w t c r =
    ⊎_elim
    (λ (later : t < r.deadline). (grind (arith, nat_tests), grind (arith, nat_tests)))
    (λ (over : r.deadline ≤ t). let none = past w t r over in (grind (arith, nat_tests), grind (arith, nat_tests)))
    (cases_lt t r.deadline)

-- One that is ready and due claims something.
pub claiming : (w c d : ℕ) (r : Reservation) → 1 ≤ w → Stocked r → is_ready r.state ≡ true → r.core ≡ c → r.deadline ≤ d → 1 ≤ due c d r (owed w r)
claiming w c d r low k ready there near = let some : 1 ≤ one w * r.left = one-le-mul (one_low w low) (k.ready ready) in grind (arith, nat_tests)

pub waking : (w t c d : ℕ) (r : Reservation) → Measured w r → is_resting r.state ≡ true → due c d (woken t r) (owed w (woken t r)) + due c d r (held w t r) ≤ due c d r (owed w r) + due c d (woken t r) (held w t (woken t r))
waking w t c d r m resting = go (keeps t r) refl
  where
    go : (b : Bool) → keeps t r ≡ b → let x = cond b (served r r.left r.deadline r.ran (wanting r.left)) (filled_to (t + r.period) r) in due c d x (owed w x) + due c d r (held w t r) ≤ due c d r (owed w r) + due c d x (held w t x)
    go true e =
        let share : r.left * r.period < (r.deadline - t) * r.budget = ltb-true _ _ e in
        let less = ahead w r.budget r.period r.left (r.deadline - t) m.period_low m.period_high (omega arith) in
        grind (arith, nat_tests)
    go false e =
        let share : (r.deadline - t) * r.budget ≤ r.left * r.period = ltb-false _ _ e in
        let less = behind w r.budget r.period r.left (r.deadline - t) m.period_low m.period_high share in
        let whole = rate_period w r.budget r.period m.period_low m.period_high in
        grind (arith, nat_tests)

pub resting : (w t c d : ℕ) (r : Reservation) → Stocked r → is_resting r.state ≡ false → due c d (rested r) (owed w (rested r)) + due c d r (held w t r) ≤ due c d r (owed w r) + due c d (rested r) (held w t (rested r))
resting w t c d r k e = grind (arith, nat_tests)

-- What it held is covered by what it no longer claims and by its credit.
pub leaving : (w t c d : ℕ) (r : Reservation) → Stocked r → due c d r (held w t r) ≤ due c d r (owed w r) + due c d r (credit w t r)
leaving w t c d r k = grind (arith, nat_tests)

-- Ready and not behind, its share covers its claim.
pub not_behind : (w t : ℕ) (r : Reservation) → Measured w r → is_behind t r ≡ false → is_ready r.state ≡ true → one w * r.left ≤ gain w r * (r.deadline - t)
not_behind w t r m e ready =
    let share : r.left * r.period ≤ (r.deadline - t) * r.budget = grind (arith, nat_tests) in
    ahead w r.budget r.period r.left (r.deadline - t) m.period_low m.period_high share

pub moving : (w t c d : ℕ) (r : Reservation) (core : ℕ) → Measured w r → Stocked r → (r.core ≡ core → ⊥) → is_behind t r ≡ false → due c d (on_core r core) (owed w (on_core r core)) + due c d r (held w t r) ≤ due c d r (owed w r) + due c d (on_core r core) (held w t (on_core r core)) + due c d r (credit w t r)
moving w t c d r core m k other e =
    let fine : is_ready r.state ≡ true → one w * r.left ≤ gain w r * (r.deadline - t) = not_behind w t r m e in
    grind (arith, nat_tests)

-- One tick less to the deadline takes at most one gain.
tick_gain : (w t : ℕ) (r : Reservation) → gain w r * (r.deadline - t) ≤ gain w r * (r.deadline - (t + 1)) + gain w r
tick_gain w t r =
    let near : r.deadline - t ≤ r.deadline - (t + 1) + 1 = omega arith in
    omega (arith, mul-le-mul_left (gain w r) near)

gain_weight : (w : ℕ) (r : Reservation) → Measured w r → gain w r ≤ weight r.parts
gain_weight w r m = rate_weight w r.budget r.period r.parts m.period_low m.period_high m.covers

-- The clock rises to t + 1, and the reservation is filled where it is due.
pub passing : (w t c d : ℕ) (r : Reservation) → Measured w r → due c d (refilled (t + 1) r) (owed w (refilled (t + 1) r)) + due c d r (held w t r) ≤ due c d r (owed w r) + due c d (refilled (t + 1) r) (held w (t + 1) (refilled (t + 1) r)) + cond (eqb r.core c) (weight r.parts) 0
passing w t c d r m = go (is_due (t + 1) r) refl
  where
    go : (b : Bool) → is_due (t + 1) r ≡ b → let x = cond b (filled_to (r.deadline + r.period) r) r in due c d x (owed w x) + due c d r (held w t r) ≤ due c d r (owed w r) + due c d x (held w (t + 1) x) + cond (eqb r.core c) (weight r.parts) 0
    go true e =
        let less = tick_gain w t r in
        let light = gain_weight w r m in
        let whole = rate_period w r.budget r.period m.period_low m.period_high in
        let now : r.deadline ≡ t + 1 = grind (arith, nat_tests) in
        let ahead : r.deadline + r.period - (t + 1) ≡ r.period = omega arith in
        let more = ap (λ (n : ℕ). gain w r * n) ahead in
        let last : r.deadline - (t + 1) ≡ 0 = omega arith in
        let none : gain w r * (r.deadline - (t + 1)) ≡ 0 = ap (λ (n : ℕ). gain w r * n) last ∙ mul-zero (gain w r) in
        grind (arith, nat_tests)
    go false e =
        let less = tick_gain w t r in
        let light = gain_weight w r m in
        grind (arith, nat_tests)

-- The reservation is charged at tick t.
pub charging : (w t c d : ℕ) (r : Reservation) (named : Bool) → Stocked r → (named ≡ true → is_ready r.state ≡ true) → let x = cond named (charged r) r in due c d x (owed w x) + due c d r (cond named (one w) 0) + due c d r (held w t r) ≤ due c d r (owed w r) + due c d x (held w t x)
charging w t c d r false k ready = grind arith
charging w t c d r true k ready =
    let some : 1 ≤ r.left = k.ready (ready refl) in
    let one_less : r.left ≡ r.left - 1 + 1 = omega arith in
    let fewer : one w * r.left ≡ one w * (r.left - 1) + one w = omega (arith, ap (λ (n : ℕ). one w * n) one_less) in
    let is-ready = ready refl in
    grind (arith, nat_tests)

-- One that is not ready, or has its deadline past d, has its share of what it claims by d after the tick.
pub calm : (w t c d : ℕ) (r : Reservation) → Measured w r → (is_ready r.state ≡ true → r.core ≡ c → d < r.deadline) → due c d (refilled (t + 1) r) (owed w (refilled (t + 1) r)) ≤ due c d (refilled (t + 1) r) (held w (t + 1) (refilled (t + 1) r))
calm w t c d r m later = go (is_due (t + 1) r) refl
  where
    go : (b : Bool) → is_due (t + 1) r ≡ b → let x = cond b (filled_to (r.deadline + r.period) r) r in due c d x (owed w x) ≤ due c d x (held w (t + 1) x)
    go true e =
        let whole = rate_period w r.budget r.period m.period_low m.period_high in
        let now : r.deadline ≡ t + 1 = grind (arith, nat_tests) in
        let ahead : r.deadline + r.period - (t + 1) ≡ r.period = omega arith in
        let more = ap (λ (n : ℕ). gain w r * n) ahead in
        grind (arith, nat_tests)
    go false e = grind (arith, nat_tests)

-- A departed reservation's credit over a tick: where its core counts for it, it falls by at most its weight.
pub fading : (w t c d : ℕ) (r : Reservation) → Measured w r → due c d r (credit w t r) ≤ due c d r (credit w (t + 1) r) + cond (eqb r.core c && ltb t (lapse r)) (weight r.parts) 0
fading w t c d r m =
    let less = tick_gain w t r in
    let light = gain_weight w r m in
    let over : lapse r ≤ t → credit w t r ≡ 0 = lapsed w t r m in
    grind (arith, nat_tests)
