-- What holds of every live reservation of a table.
use Rattle.std.specs.Prelude.{ℕ, ◌+◌, Bool, ◌&&◌, nat_le, nat_lt}
use Rattle.terms.specs.Limits.{in_limits}
use Rattle.rules.specs.declared.types.Reservation.{Reservation}

-- Terms within their limits, one of eight cores, no more ticks run than the clock t shows, and a deadline at most the longest period
-- after it.
abbrev pub fit : ℕ → Reservation → Bool
fit t r = in_limits r.budget r.period && (nat_lt r.core 8 && (nat_le r.ran t && nat_le r.deadline (t + 1000000)))
