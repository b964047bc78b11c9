-- The orders of the two kinds of element.
-- Assumes nothing.
use Rattle.std.specs.Prelude.{ℕ, Bool, List, [], ◌∷◌}
use Rattle.calendar.specs.Orders.{in_turn}
use Rattle.calendar_tests.specs.declared.Key.{Key}
use Rattle.calendar_tests.specs.declared.Entry.{Entry}

-- A key goes by its deadline and then its number.
abbrev pub key_figures : Key → List ℕ
key_figures x = x.deadline ∷ x.number ∷ []

-- An entry goes by its lapse tick and then its number, core and parts.
abbrev pub entry_figures : Entry → List ℕ
entry_figures x = x.lapse ∷ x.number ∷ x.core ∷ x.parts ∷ []

-- A key is at most another by its figures in turn.
abbrev pub sooner : Key → Key → Bool
sooner x y = in_turn (key_figures x) (key_figures y)

-- An entry is at most another by its figures in turn.
abbrev pub lapses : Entry → Entry → Bool
lapses x y = in_turn (entry_figures x) (entry_figures y)
