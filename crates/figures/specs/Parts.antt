-- The parts that a measure has for any two figures. Words: parts_of.
use Rattle.std.specs.Prelude.{ℕ, cond, None, Option}
use Rattle.terms.specs.Limits.{in_limits}

-- The parts of a budget in a period, or none outside the limits of terms.
abbrev pub parts_of : (ℕ → ℕ → Option ℕ) → ℕ → ℕ → Option ℕ
parts_of price budget period = cond (in_limits budget period) (price budget period) None
