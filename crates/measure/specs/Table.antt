-- The law of a catalogue from one test over all its rows.
use Rattle.std.specs.Prelude.{◌≡◌, ℕ, ◌*◌, ◌≤◌, Bool, true, ◌&&◌, List, [], ◌∷◌, Some, nat_le, refl}
use Rattle.std.proofs.Common.{arith, lit≤}
use Rattle.std.proofs.lemmas.Bool.Decides.{nat_tests}
use Rattle.std.specs.List.{list_all}
use Rattle.measure.specs.Laws.{Lawful}
use Rattle.measure.specs.Meanings.{catalogue_whole, rows, priced, catalogue}
use Rattle.measure.specs.declared.rows.Row.{Row}

-- the parts cover the budget's share of the whole, and are 1 to the whole
abbrev fair : ℕ → ℕ → ℕ → ℕ → Bool
fair whole budget period parts = nat_le (budget * whole) (parts * period) && nat_le 1 parts && nat_le parts whole

-- the test over all rows
abbrev every : ℕ → List Row → Bool
every whole = list_all (λ r. fair whole r.budget r.period r.parts)

-- what the test says of each answer
priced_fair :
    (whole : ℕ) (table : List Row) → every whole table ≡ true
    → (budget period parts : ℕ) → priced table budget period ≡ Some parts → fair whole budget period parts ≡ true
priced_fair whole [] h budget period parts e = cc
priced_fair whole (r ∷ others) h budget period parts e =
    let rest = priced_fair whole others in
    grind (arith, nat_tests)

all_fair : every catalogue_whole rows ≡ true
all_fair = refl

module _ (budget period parts : ℕ) (taken : catalogue budget period ≡ Some parts) where
  row_fair : fair catalogue_whole budget period parts ≡ true
  row_fair = priced_fair catalogue_whole rows all_fair budget period parts taken

  pub row_covers : budget * catalogue_whole ≤ parts * period
  row_covers = let fact = row_fair in grind (arith, nat_tests)

  pub row_low : 1 ≤ parts
  row_low = let fact = row_fair in grind (arith, nat_tests)

  pub row_high : parts ≤ catalogue_whole
  row_high = let fact = row_fair in grind (arith, nat_tests)

-- The catalogue's law.
pub catalogue_lawful : Lawful catalogue_whole catalogue
catalogue_lawful = record {
  whole_low = lit≤ tt;
  whole_high = lit≤ tt;
  covers = λ budget period parts within. row_covers budget period parts;
  low = λ budget period parts within. row_low budget period parts;
  high = λ budget period parts within. row_high budget period parts;
}
