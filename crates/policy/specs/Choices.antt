-- What the three fits choose. Words: prefers_none, prefers_more, prefers_less, beaten, lowest, chosen, first_fit, worst_fit, best_fit.
use Rattle.std.specs.Prelude.{ℕ, suc, Bool, false, cond, not, ◌&&◌, List, [], ◌∷◌, Some, None, Option, nat_le, nat_lt, slice_index}
use Rattle.std.specs.Option.{option_map}

-- Whether a fit prefers this room to the other: first fit prefers none, worst fit the larger, best fit the smaller.
abbrev pub prefers_none : ℕ → ℕ → Bool
prefers_none room other = false

abbrev pub prefers_more : ℕ → ℕ → Bool
prefers_more room other = nat_lt other room

abbrev pub prefers_less : ℕ → ℕ → Bool
prefers_less room other = nat_lt room other

-- Whether a fit prefers the room of the core named, if one is, to this room.
abbrev pub beaten : (ℕ → ℕ → Bool) → List ℕ → Option ℕ → ℕ → Bool
beaten prefers rooms None room = false
beaten prefers rooms (Some core) room = prefers (slice_index rooms core) room

-- Core 0 against the one named among the cores above it, which count from 0 in their turn: core 0 is named where its room is enough for the parts and is not beaten.
abbrev pub lowest : (ℕ → ℕ → Bool) → ℕ → ℕ → List ℕ → Option ℕ → Option ℕ
lowest prefers parts room above named =
    cond (nat_le parts room && not (beaten prefers above named room)) (Some 0) (option_map suc named)

-- The core that a fit with this preference names for the parts sought.
abbrev pub chosen : (ℕ → ℕ → Bool) → List ℕ → ℕ → Option ℕ
chosen prefers [] parts = None
chosen prefers (room ∷ above) parts = lowest prefers parts room above (chosen prefers above parts)

-- The lowest core with room for the parts.
abbrev pub first_fit : List ℕ → ℕ → Option ℕ
first_fit rooms parts = chosen prefers_none rooms parts

-- The core with most room, if that is enough for the parts.
abbrev pub worst_fit : List ℕ → ℕ → Option ℕ
worst_fit rooms parts = chosen prefers_more rooms parts

-- The core with least room of those with room for the parts.
abbrev pub best_fit : List ℕ → ℕ → Option ℕ
best_fit rooms parts = chosen prefers_less rooms parts
