-- The limits of terms. Words: in_limits.
use Rattle.std.specs.Prelude.{ℕ, Bool, ◌&&◌, nat_le}

-- A budget of 1 up to the period, and a period of at most 1,000,000 ticks.
abbrev pub in_limits : ℕ → ℕ → Bool
in_limits budget period = nat_le 1 budget && nat_le budget period && nat_le period 1000000
