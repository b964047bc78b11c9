-- Shares as whole numbers. Everything is counted in units so small that every reservation gains a whole number of them at each tick:
-- one tick of a core is `one`, a reservation gains `rate` at each tick, and its core counts `weight` for it.
-- Words: scale, one, rate, weight.
use Rattle.std.proofs.Common.{◌≡◌, ℕ, suc, ◌+◌, ◌*◌, ◌/◌, ◌<◌, ◌≤◌, ◌⊎◌, sym, ap, ◌∙◌, ⊎_elim, mul-le-mul_right, mul-le-mul_left, le_of_mul-le-mul_right, mul-div_cancel, arith}
use native.Mathlib.Nat.{one-le-mul}
use Rattle.std.proofs.lemmas.Bool.{cases_order}

-- The product of the numbers 1 to n.
product : ℕ → ℕ
product ℕ.zero = 1
product (suc n) = product n * suc n

product_low : (n : ℕ) → 1 ≤ product n
unfolding product
product_low ℕ.zero = omega arith
product_low (suc n) = one-le-mul (product_low n) (omega arith)

-- Each number from 1 to n divides it.
product_divides : (n p : ℕ) → 1 ≤ p → p ≤ n → (k : ℕ) × (k * p ≡ product n)
unfolding product
product_divides ℕ.zero p low high = absurd (omega arith)
product_divides (suc n) p low high =
    ⊎_elim
    (λ (e : p ≡ suc n). (product n, ap (λ x. product n * x) e))
    (λ (ne : (p < suc n) ⊎ (suc n < p)).
    ⊎_elim
    (λ (below : p < suc n). let (k, e) = product_divides n p low (omega arith) in (k * suc n, omega (arith, ap (λ x. x * suc n) e)))
    (λ (above : suc n < p). absurd (omega arith))
    ne)
    (cases_order p (suc n))

-- A number that every period divides. Its value is of no interest, and is never computed.
pub scale : ℕ
scale = product 1000000

pub scale_low : 1 ≤ scale
unfolding scale
scale_low = product_low 1000000

exact_quotient : (x k p : ℕ) → 1 ≤ p → k * p ≡ x → x / p * p ≡ x
exact_quotient x k p low e = ap (λ (y : ℕ). y / p * p) (sym e) ∙ ap (λ (y : ℕ). y * p) (mul-div_cancel k low) ∙ e

pub scale_divides : (p : ℕ) → 1 ≤ p → p ≤ 1000000 → scale / p * p ≡ scale
unfolding scale
scale_divides p low high = let (k, e) = product_divides 1000000 p low high in exact_quotient (product 1000000) k p low e

-- One tick of a core whose whole is w.
pub one : ℕ → ℕ
one w = w * scale

-- What terms of q in p gain at each tick.
pub rate : ℕ → ℕ → ℕ → ℕ
rate w q p = w * (scale / p) * q

-- What a core counts for so many parts.
pub weight : ℕ → ℕ
weight parts = parts * scale

pub one_low : (w : ℕ) → 1 ≤ w → 1 ≤ one w
unfolding one
one_low w low = one-le-mul low scale_low

-- Parts of at most the whole weigh at most one tick.
pub weight_whole : (parts w : ℕ) → parts ≤ w → weight parts ≤ one w
unfolding one weight
weight_whole parts w h = mul-le-mul_right scale h

pub weight_none : weight 0 ≡ 0
unfolding weight
weight_none = omega arith

pub weight_sum : (a b : ℕ) → weight (a + b) ≡ weight a + weight b
unfolding weight
weight_sum a b = omega arith

-- Over a whole period the gain is the budget.
pub rate_period : (w q p : ℕ) → 1 ≤ p → p ≤ 1000000 → rate w q p * p ≡ one w * q
unfolding one rate
rate_period w q p low high = omega (arith, ap (λ (x : ℕ). x * (w * q)) (scale_divides p low high))

-- The parts of a lawful measure weigh at least the gain of a tick.
pub rate_weight : (w q p parts : ℕ) → 1 ≤ p → p ≤ 1000000 → q * w ≤ parts * p → rate w q p ≤ weight parts
unfolding rate weight
rate_weight w q p parts low high covers =
    omega (arith, mul-le-mul_right (scale / p) covers, ap (λ (x : ℕ). parts * x) (scale_divides p low high))

-- A budget that is at most the share of e ticks is at most their gain.
pub ahead : (w q p left e : ℕ) → 1 ≤ p → p ≤ 1000000 → left * p ≤ e * q → one w * left ≤ rate w q p * e
ahead w q p left e low high h =
    le_of_mul-le-mul_right
    {k = p}
    (omega (arith, mul-le-mul_left (one w) h, ap (λ (x : ℕ). x * e) (rate_period w q p low high)))
    low

-- And the other way round.
pub behind : (w q p left e : ℕ) → 1 ≤ p → p ≤ 1000000 → e * q ≤ left * p → rate w q p * e ≤ one w * left
behind w q p left e low high h =
    le_of_mul-le-mul_right
    {k = p}
    (omega (arith, mul-le-mul_left (one w) h, ap (λ (x : ℕ). x * e) (rate_period w q p low high)))
    low
