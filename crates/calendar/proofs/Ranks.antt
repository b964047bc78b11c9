-- Figures compared in turn are a total order, and so are the elements that they tell apart.
-- Assumes nothing.
use Rattle.std.proofs.Common.{◌≡◌, ℕ, true, ◌||◌, List, [], ◌∷◌, refl, arith}
use Rattle.std.proofs.lemmas.Bool.Decides.{nat_tests}
use Rattle.calendar.specs.Orders.{Total, in_turn}

in_turn_compares : (xs ys : List ℕ) → (in_turn xs ys || in_turn ys xs) ≡ true
in_turn_compares [] ys = refl
in_turn_compares (x ∷ xs) [] = refl
in_turn_compares (x ∷ xs) (y ∷ ys) = let h = in_turn_compares xs ys in grind (arith, nat_tests)

in_turn_passes : (xs ys zs : List ℕ) → in_turn xs ys ≡ true → in_turn ys zs ≡ true → in_turn xs zs ≡ true
in_turn_passes [] ys zs h k = refl
in_turn_passes (x ∷ xs) [] zs h k = grind arith
in_turn_passes (x ∷ xs) (y ∷ ys) [] h k = grind arith
in_turn_passes (x ∷ xs) (y ∷ ys) (z ∷ zs) h k = let i = in_turn_passes xs ys zs in grind (arith, nat_tests)

in_turn_same : (xs ys : List ℕ) → in_turn xs ys ≡ true → in_turn ys xs ≡ true → xs ≡ ys
in_turn_same [] [] h k = refl
in_turn_same [] (y ∷ ys) h k = grind arith
in_turn_same (x ∷ xs) [] h k = grind arith
in_turn_same (x ∷ xs) (y ∷ ys) h k = let i = in_turn_same xs ys in grind (arith, nat_tests)

-- elements by their figures in turn, where the figures tell any two apart
pub total_by : {X : Type 0} (figures : X → List ℕ) → ((x y : X) → figures x ≡ figures y → x ≡ y) → Total (λ x y. in_turn (figures x) (figures y))
total_by figures apart = record {
  compares = λ x y. in_turn_compares (figures x) (figures y);
  passes = λ x y z. in_turn_passes (figures x) (figures y) (figures z);
  same = λ x y h k. apart x y (in_turn_same (figures x) (figures y) h k);
}
