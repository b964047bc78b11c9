-- What each core counts, its bound and its room, in parts of the measure's whole.
use Rattle.std.specs.Prelude.{ℕ, suc, ◌+◌, ◌-◌, ◌*◌, ◌/◌, cond, ◌&&◌, List, [], ◌∷◌, map, ◌==◌, nat_lt, slice_index}
use Rattle.rules.specs.declared.types.Reservation.{Reservation}
use Rattle.rules.specs.declared.types.Entry.{Entry}
use Rattle.rules.specs.Lists.{total}
use Rattle.rules.specs.Setup.{Setup}
use Rattle.rules.specs.System.{System}

-- The parts of the live reservations on core c.
abbrev pub live_parts : ℕ → List Reservation → ℕ
live_parts c rs = total (λ r. cond (r.core == c) r.parts 0) rs

-- The parts of core c's entries whose lapse tick is after the tick t.
abbrev pub departed_parts : ℕ → ℕ → List Entry → ℕ
departed_parts t c es = total (λ e. cond (e.core == c && nat_lt t e.lapse) e.parts 0) es

-- A core's counted parts: those of its live reservations and of its entries that lapse after the clock.
abbrev pub counted : System → ℕ → ℕ
counted σ c = live_parts c σ.live + departed_parts σ.clock c σ.ledger

-- The bound of each core: whole × B / 1000, rounded down.
abbrev pub bounds : Setup → List ℕ
bounds s = map (λ b. s.whole * b / 1000) s.figures

abbrev pub bound : Setup → ℕ → ℕ
bound s c = slice_index (bounds s) c

-- A core's room: its bound less what it counts.
abbrev pub room : Setup → System → ℕ → ℕ
room s σ c = bound s c - counted σ c

-- The rooms of the cores from c on, whose bounds these are.
abbrev pub rooms_from : System → ℕ → List ℕ → List ℕ
rooms_from σ c [] = []
rooms_from σ c (b ∷ bs) = (b - counted σ c) ∷ rooms_from σ (suc c) bs

-- The rooms of all cores in core order.
abbrev pub rooms : Setup → System → List ℕ
rooms s σ = rooms_from σ 0 (bounds s)
