-- What can be asked of an engine; a question changes nothing.
use Rattle.std.specs.Prelude.{ℕ, cond, length, None, Ok, Err, Option, Result, nat_lt, slice_index_or}
use Rattle.std.specs.Option.{ok_or}
use Rattle.terms.specs.declared.refusals.Refusal.{Refusal}
use Rattle.terms.specs.declared.refusals.Refusal.TheVariants.{NoCore, NoReservation}
use Rattle.rules.specs.declared.types.Reservation.{Reservation}
use Rattle.rules.specs.Lists.{find}
use Rattle.rules.specs.Setup.{Setup}
use Rattle.rules.specs.System.{System}
use Rattle.rules.specs.Parts.{bound, live_parts, departed_parts}

-- A figure of core c, or that there is no such core.
abbrev pub of_core : {X : Type 0} → Setup → ℕ → X → Result X Refusal
of_core s c x = cond (nat_lt c (length s.figures)) (Ok x) (Err NoCore)

-- A core's bound.
abbrev pub bound_of : Setup → ℕ → Result ℕ Refusal
bound_of s c = of_core s c (bound s c)

-- The parts of a core's live reservations.
abbrev pub live_parts_of : Setup → System → ℕ → Result ℕ Refusal
live_parts_of s σ c = of_core s c (live_parts c σ.live)

-- The parts of a core's departed reservations that it still counts.
abbrev pub departed_parts_of : Setup → System → ℕ → Result ℕ Refusal
departed_parts_of s σ c = of_core s c (departed_parts σ.clock c σ.ledger)

-- The reservation last dealt a core, none while no round is out.
abbrev pub name_of : Setup → System → ℕ → Result (Option ℕ) Refusal
name_of s σ c = of_core s c (slice_index_or σ.names c None)

-- The record of a live reservation.
abbrev pub record_of : System → ℕ → Result Reservation Refusal
record_of σ n = ok_or (find n σ.live) NoReservation

-- How many entries the ledger holds.
abbrev pub ledger_length : System → ℕ
ledger_length σ = length σ.ledger
