-- The names dealt, for eight cores.
use Rattle.std.specs.Prelude.{ℕ, ◌-◌, List, ◌++◌, length, replicate, None, Option}

-- The names with none for each core past the last, up to eight.
abbrev pub eight_names : List (Option ℕ) → List (Option ℕ)
eight_names names = names ++ replicate (8 - length names) None
