-- The parts of the rounded measure cover the budget's share of the whole, and are 1 to the whole.
use Rattle.std.specs.Prelude.{◌≡◌, ℕ, ◌+◌, ◌-◌, ◌*◌, ◌<◌, ◌≤◌, true}
use Rattle.std.proofs.Math.Nat.{lt-div-mul-add}
use Rattle.std.proofs.Common.{arith, lit≤}
use Rattle.std.proofs.lemmas.Bool.Decides.{nat_tests}
use Rattle.std.proofs.lemmas.Nat.{div_below, le-div}
use Rattle.terms.specs.Limits.{in_limits}
use Rattle.measure.specs.Laws.{Lawful}
use Rattle.measure.specs.Meanings.{rounded_whole, quotient_up, rounded}

module _ (budget period : ℕ) (within : in_limits budget period ≡ true) where
  some_budget : 1 ≤ budget
  some_budget = grind (arith, nat_tests)

  some : 0 < period
  some = grind (arith, nat_tests)

  part : budget ≤ period
  part = grind (arith, nat_tests)

  pub up_covers : budget * rounded_whole ≤ quotient_up (budget * rounded_whole) period * period
  up_covers = omega (arith, some, lt-div-mul-add {a = budget * rounded_whole + (period - 1)} some)

  pub up_low : 1 ≤ quotient_up (budget * rounded_whole) period
  up_low = le-div 1 (budget * rounded_whole + (period - 1)) period some (omega (arith, some_budget))

  pub up_high : quotient_up (budget * rounded_whole) period ≤ rounded_whole
  up_high =
      let below = div_below (budget * rounded_whole + (period - 1)) period (rounded_whole + 1) some (omega (arith, some, part)) in
      omega arith

-- The rounded measure's law.
pub rounded_lawful : Lawful rounded_whole rounded
rounded_lawful = record {
  whole_low = lit≤ tt;
  whole_high = lit≤ tt;
  covers = λ budget period parts within taken. let fact = up_covers budget period within in grind arith;
  low = λ budget period parts within taken. let fact = up_low budget period within in grind arith;
  high = λ budget period parts within taken. let fact = up_high budget period within in grind arith;
}
