-- The two measures. Words: rounded_whole, rounded, catalogue_whole, row, rows, catalogue.
use Rattle.std.specs.Prelude.{ℕ, ◌+◌, ◌-◌, ◌*◌, ◌/◌, ◌&&◌, List, [], ◌∷◌, Some, Option, ◌==◌}
use Rattle.std.specs.List.{find}
use Rattle.std.specs.Option.{option_map}
use Rattle.measure.specs.declared.rows.Row.{Row}

-- The whole of the rounded measure.
abbrev pub rounded_whole : ℕ
rounded_whole = 1048576

-- A quotient rounded up.
abbrev pub quotient_up : ℕ → ℕ → ℕ
quotient_up n d = (n + (d - 1)) / d

-- The rounded measure takes all terms, and their parts are the budget's share of the whole, rounded up.
abbrev pub rounded : ℕ → ℕ → Option ℕ
rounded budget period = Some (quotient_up (budget * rounded_whole) period)

-- The whole of the catalogue.
abbrev pub catalogue_whole : ℕ
catalogue_whole = 1000

-- A row of the catalogue.
abbrev pub row : ℕ → ℕ → ℕ → Row
row budget period parts = record { budget = budget; period = period; parts = parts }

-- The rows of the catalogue.
abbrev pub rows : List Row
rows =
    row 4 20 200 ∷ row 10 50 220 ∷ row 3 100 30 ∷ row 7 30 234 ∷ row 1 3 334 ∷ row 25 200 125 ∷ row 40 1000 40
    ∷ row 5 7 715
    ∷ row 1 1000000 1
    ∷ row 60 240 250
    ∷ []

-- The parts in the first row with this budget and this period, or none where there is no such row.
abbrev pub priced : List Row → ℕ → ℕ → Option ℕ
priced table budget period =
    option_map (λ r. r.parts) (find (λ r. r.budget == budget && r.period == period) table)

-- The catalogue takes the terms that have a row.
abbrev pub catalogue : ℕ → ℕ → Option ℕ
catalogue budget period = priced rows budget period
