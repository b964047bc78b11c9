-- What a table shows: its clock and its live reservations.
use Rattle.std.specs.Prelude.{ℕ, List, Ok, Err, Result}
use Rattle.terms.specs.declared.refusals.Refusal.{Refusal}
use Rattle.rules.specs.declared.types.Reservation.{Reservation}
use Rattle.table.specs.declared.live.Table.{Table}

-- The tick that the clock shows.
abbrev pub clock_of : Table → ℕ
clock_of t = t.clock

-- The live reservations in order.
abbrev pub live_of : Table → List Reservation
live_of t = t.rows.items

-- The making of a table, with the table as what it shows.
abbrev pub shown : Result Table Refusal → Result (ℕ × List Reservation) Refusal
shown (Ok t) = Ok (clock_of t, live_of t)
shown (Err e) = Err e
