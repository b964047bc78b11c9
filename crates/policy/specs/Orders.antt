-- A fit's preference is a strict weak order. Words: StrictWeakOrder, ChosenBy.
use Rattle.std.specs.Prelude.{◌≡◌, ℕ, Bool, true, false, List, Option}
use Rattle.policy.specs.Choices.{chosen}

-- A preference that is a strict weak order: no room is preferred to itself, no two are preferred to each other, and one that is not preferred to a second, which is not preferred to a third, is not preferred to the third.
pub record StrictWeakOrder (prefers : ℕ → ℕ → Bool) : Type 0 where
  pub irreflexive : (x : ℕ) → prefers x x ≡ false
  pub asymmetric : (x y : ℕ) → prefers x y ≡ true → prefers y x ≡ false
  pub negatively_transitive : (x y z : ℕ) → prefers x y ≡ false → prefers y z ≡ false → prefers x z ≡ false

-- The core named is the choice by the order that the answers give: `says room other b` where `b` may be answered to whether a room is preferred to the other.
abbrev pub ChosenBy : (ℕ → ℕ → Bool → Type 0) → List ℕ → ℕ → Option ℕ → Type 0
ChosenBy says rooms parts named =
    (prefers : ℕ → ℕ → Bool) → StrictWeakOrder prefers → ((room other : ℕ) (b : Bool) → says room other b → b ≡ prefers room other)
    → named ≡ chosen prefers rooms parts
