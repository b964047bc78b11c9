-- The order of the ledger's entries.
use Rattle.std.specs.Prelude.{ℕ, Bool, List, [], ◌∷◌}
use Rattle.calendar.specs.Orders.{in_turn}
use Rattle.rules.specs.declared.types.Entry.{Entry}

-- An entry goes by its lapse tick, then its number, then its core, then its parts.
abbrev pub entry_figures : Entry → List ℕ
entry_figures e = e.lapse ∷ e.number ∷ e.core ∷ e.parts ∷ []

-- An entry goes before another by its figures in turn.
abbrev pub lapses_first : Entry → Entry → Bool
lapses_first x y = in_turn (entry_figures x) (entry_figures y)
