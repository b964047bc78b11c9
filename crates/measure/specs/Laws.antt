-- The laws of a measure. Words: Lawful.
use Rattle.std.specs.Prelude.{◌≡◌, ℕ, ◌*◌, ◌≤◌, true, Some, Option}
use Rattle.terms.specs.Limits.{in_limits}

-- A measure with this whole and these parts of a budget in a period: the whole is 1 to 4,000,000, and the parts of all terms taken cover the budget's share of the whole and are 1 to the whole.
pub record Lawful (whole : ℕ) (price : ℕ → ℕ → Option ℕ) : Type 0 where
  pub whole_low : 1 ≤ whole
  pub whole_high : whole ≤ 4000000
  pub covers : (budget period parts : ℕ) → in_limits budget period ≡ true → price budget period ≡ Some parts → budget * whole ≤ parts * period
  pub low : (budget period parts : ℕ) → in_limits budget period ≡ true → price budget period ≡ Some parts → 1 ≤ parts
  pub high : (budget period parts : ℕ) → in_limits budget period ≡ true → price budget period ≡ Some parts → parts ≤ whole
