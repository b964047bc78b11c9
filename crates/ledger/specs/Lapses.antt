-- Lapse ticks of the ledger's entries.
use Rattle.std.specs.Prelude.{ℕ, Bool, true, cond, ◌&&◌, List, [], ◌∷◌, ◌==◌, nat_le, nat_lt}
use Rattle.rules.specs.declared.types.Entry.{Entry}

-- No entry of the list lapses before the tick t.
abbrev pub none_before : ℕ → List Entry → Bool
none_before t [] = true
none_before t (e ∷ es) = nat_le t e.lapse && none_before t es

-- The entry lapses after the tick t.
abbrev pub lapses_after : ℕ → Entry → Bool
lapses_after t e = nat_lt t e.lapse

-- Core c counts the entry after the tick t.
abbrev pub counts : ℕ → ℕ → Entry → Bool
counts t c e = e.core == c && lapses_after t e

-- What core c counts of an entry after the tick t.
abbrev pub counted_parts : ℕ → ℕ → Entry → ℕ
counted_parts t c e = cond (counts t c e) e.parts 0
