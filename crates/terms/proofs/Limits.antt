-- What the test of the limits tells.
use Rattle.std.proofs.Common.{◌≡◌, ℕ, ◌≤◌, true, arith}
use Rattle.std.proofs.lemmas.Bool.Decides.{nat_tests}
use Rattle.terms.specs.Limits.{in_limits}

pub budget_low : (budget period : ℕ) → in_limits budget period ≡ true → 1 ≤ budget
budget_low budget period h = grind (arith, nat_tests)

pub budget_high : (budget period : ℕ) → in_limits budget period ≡ true → budget ≤ period
budget_high budget period h = grind (arith, nat_tests)

pub period_high : (budget period : ℕ) → in_limits budget period ≡ true → period ≤ 1000000
period_high budget period h = grind (arith, nat_tests)

pub in_limits_lem : (budget period : ℕ) → 1 ≤ budget → budget ≤ period → period ≤ 1000000 → in_limits budget period ≡ true
in_limits_lem budget period low high most = grind (arith, nat_tests)
