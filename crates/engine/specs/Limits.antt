-- What holds of an engine's figures between calls.
use Rattle.std.specs.Prelude.{ℕ, Bool, true, not, ◌&&◌, ◌||◌, List, [], ◌∷◌, length, take, drop, is_some, Some, None, Option, ◌==◌, nat_lt}
use Rattle.rules.specs.Setup.{last_tick}
use Rattle.table.specs.declared.server.Picks.{Picks}

-- All of them are none.
abbrev pub all_none : List (Option ℕ) → Bool
all_none [] = true
all_none (x ∷ xs) = not (is_some x) && all_none xs

-- No core from n on has a name.
abbrev pub none_from : ℕ → List (Option ℕ) → Bool
none_from n names = all_none (drop n names)

-- A round that is out has eight names, and none for a core from n on.
abbrev pub fits_cores : ℕ → Option Picks → Bool
fits_cores n None = true
fits_cores n (Some p) = length p.names == 8 && none_from n p.names

-- The names of n cores in the round that is out, and no name while none is.
abbrev pub names_out : ℕ → Option Picks → List (Option ℕ)
names_out n None = []
names_out n (Some p) = take n p.names

-- While a round is out the clock is before the last tick.
abbrev pub going : Bool → ℕ → Bool
going out t = not out || nat_lt t last_tick
