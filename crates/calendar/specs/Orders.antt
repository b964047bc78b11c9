-- What a total order is, as a test that says whether one element is at most another.
-- Assumes nothing.
use Rattle.std.specs.Prelude.{◌≡◌, ℕ, Bool, true, false, ◌&&◌, ◌||◌, List, [], ◌∷◌, ◌==◌, nat_lt}

-- Any two elements compare, the order passes on through a third, and two are each before the other only if they are the same.
pub record Total {X : Type 0} (before : X → X → Bool) : Type 0 where
  pub compares : (x y : X) → (before x y || before y x) ≡ true
  pub passes : (x y z : X) → before x y ≡ true → before y z ≡ true → before x z ≡ true
  pub same : (x y : X) → before x y ≡ true → before y x ≡ true → x ≡ y

-- Two elements are the same where each is before the other.
abbrev pub alike : {X : Type 0} → (X → X → Bool) → X → X → Bool
alike before x y = before x y && before y x

-- Figures compared in turn: by the first, and by those after it where the first are equal.
abbrev pub in_turn : List ℕ → List ℕ → Bool
in_turn [] ys = true
in_turn (x ∷ xs) [] = false
in_turn (x ∷ xs) (y ∷ ys) = nat_lt x y || (x == y && in_turn xs ys)
