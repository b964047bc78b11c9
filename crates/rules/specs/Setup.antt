-- What an engine is made from: the meanings of its measure and its policy, a figure B for each core, and the first tick.
use Rattle.std.specs.Prelude.{ℕ, Bool, cond, ◌&&◌, List, length, Some, None, Option, nat_le}
use Rattle.std.specs.List.{list_all}
use Rattle.terms.specs.declared.refusals.Refusal.{Refusal}
use Rattle.terms.specs.declared.refusals.Refusal.TheVariants.{Cores, Bandwidth, Start}

-- The whole of the measure, its parts for a budget and a period (none where it does not take them), the policy's choice for the
-- rooms of all cores and the parts sought, a figure B for each core in thousandths of the whole, and the first tick.
pub record Setup : Type 0 where
  pub whole : ℕ
  pub price : ℕ → ℕ → Option ℕ
  pub choice : List ℕ → ℕ → Option ℕ
  pub figures : List ℕ
  pub start : ℕ

-- The setup made of these.
abbrev pub setup_of : ℕ → (ℕ → ℕ → Option ℕ) → (List ℕ → ℕ → Option ℕ) → List ℕ → ℕ → Setup
setup_of whole price choice figures start =
    record { whole = whole; price = price; choice = choice; figures = figures; start = start }

-- The last tick that the clock can show.
abbrev pub last_tick : ℕ
last_tick = 4000000000

-- Each figure B is 1 to 1,000.
abbrev pub figures_fit : List ℕ → Bool
figures_fit figures = list_all (λ b. nat_le 1 b && nat_le b 1000) figures

-- What refuses the making of an engine, the first that applies: 1 to 8 cores, each B from 1 to 1,000, a first tick of at most the last.
abbrev pub making : List ℕ → ℕ → Option Refusal
making figures start =
    cond (nat_le 1 (length figures) && nat_le (length figures) 8)
    (cond (figures_fit figures) (cond (nat_le start last_tick) None (Some Start)) (Some Bandwidth))
    (Some Cores)
