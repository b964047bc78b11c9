-- The three choices in words of their own. Words: LowestThatSuffices, MostRoom, LeastRoom.
use Rattle.std.specs.Prelude.{ℕ, ◌<◌, ◌≤◌, List, length, IfSome, Option, slice_index}

-- No lower core than the one named has room for the parts.
abbrev pub LowestThatSuffices : List ℕ → ℕ → Option ℕ → Type 0
LowestThatSuffices rooms parts named = IfSome named (λ core. (other : ℕ) → other < core → slice_index rooms other < parts)

-- No core has more room than the one named, and no lower core has as much.
abbrev pub MostRoom : List ℕ → Option ℕ → Type 0
MostRoom rooms named =
    IfSome named
    (λ core. ((other : ℕ) → other < length rooms → slice_index rooms other ≤ slice_index rooms core)
    × ((other : ℕ) → other < core → slice_index rooms other < slice_index rooms core))

-- No core with room for the parts has less room than the one named, and no lower core has room for them and as little.
abbrev pub LeastRoom : List ℕ → ℕ → Option ℕ → Type 0
LeastRoom rooms parts named =
    IfSome named
    (λ core. ((other : ℕ) → other < length rooms → parts ≤ slice_index rooms other → slice_index rooms core ≤ slice_index rooms other)
    × ((other : ℕ) → other < core → parts ≤ slice_index rooms other → slice_index rooms core < slice_index rooms other))
