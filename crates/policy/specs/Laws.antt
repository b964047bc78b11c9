-- The laws of a policy. Words: Lawful.
use Rattle.std.specs.Prelude.{◌≡◌, ℕ, ◌<◌, ◌≤◌, List, length, Some, None, Option, slice_index}

-- Every core's room is below the parts sought.
abbrev pub Short : List ℕ → ℕ → Type 0
Short rooms parts = (core : ℕ) → core < length rooms → slice_index rooms core < parts

-- A choice of a core by the rooms and the parts sought: it names none exactly when every room is below these, and a core that it names exists and has room for them.
pub record Lawful (choice : List ℕ → ℕ → Option ℕ) : Type 0 where
  pub none : (rooms : List ℕ) (parts : ℕ) → choice rooms parts ≡ None → Short rooms parts
  pub short : (rooms : List ℕ) (parts : ℕ) → Short rooms parts → choice rooms parts ≡ None
  pub exists : (rooms : List ℕ) (parts core : ℕ) → choice rooms parts ≡ Some core → core < length rooms
  pub room : (rooms : List ℕ) (parts core : ℕ) → choice rooms parts ≡ Some core → parts ≤ slice_index rooms core
