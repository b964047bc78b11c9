-- Sums over a list: of one element more, one changed, one gone, some kept, and of two sums element by element.
use Rattle.std.proofs.Common.{◌≡◌, ℕ, ◌+◌, ◌≤◌, Bool, false, cond, List, [], ◌∷◌, ◌++◌, map, Some, sym, refl, ap, arith}
use Rattle.std.specs.List.{filter, All}
use Rattle.std.proofs.lemmas.List.Elements.{All-head, All-tail}
use Rattle.std.proofs.lemmas.Bool.Decides.{nat_tests}
use Rattle.rules.specs.declared.types.Reservation.{Reservation}
use Rattle.rules.specs.Lists.{total, find, change, without}
use Rattle.rules.proofs.Weights.{weight, weight_none, weight_sum}

pub total_push : {X : Type 0} (f : X → ℕ) (xs : List X) (x : X) → total f (xs ++ x ∷ []) ≡ total f xs + f x
total_push f [] x = omega arith
total_push f (y ∷ ys) x = omega (arith, total_push f ys x)

pub total_map : {X Y : Type 0} (f : Y → ℕ) (g : X → Y) (xs : List X) → total f (map g xs) ≡ total (λ x. f (g x)) xs
total_map f g [] = refl
total_map f g (x ∷ xs) = ap (λ (n : ℕ). f (g x) + n) (total_map f g xs)

-- Element by element.
pub total_le : {X : Type 0} (f g : X → ℕ) (xs : List X) → All (λ x. f x ≤ g x) xs → total f xs ≤ total g xs
total_le f g [] h = omega arith
total_le f g (x ∷ xs) h = omega (arith, All-head (λ y. f y ≤ g y) x xs h, total_le f g xs (All-tail (λ y. f y ≤ g y) x xs h))

pub total_none : {X : Type 0} (f : X → ℕ) → ((x : X) → f x ≡ 0) → (xs : List X) → total f xs ≡ 0
total_none f h [] = refl
total_none f h (x ∷ xs) = omega (arith, h x, total_none f h xs)

pub total_sum : {X : Type 0} (f g : X → ℕ) (xs : List X) → total (λ x. f x + g x) xs ≡ total f xs + total g xs
total_sum f g [] = refl
total_sum f g (x ∷ xs) = omega (arith, total_sum f g xs)

-- What does not pass counts nothing.
pub total_kept : {X : Type 0} (f : X → ℕ) (p : X → Bool) (xs : List X) → All (λ x. p x ≡ false → f x ≡ 0) xs → total f (filter p xs) ≡ total f xs
total_kept f p [] h = refl
total_kept f p (x ∷ xs) h =
    let here = All-head (λ y. p y ≡ false → f y ≡ 0) x xs h in
    let more = total_kept f p xs (All-tail (λ y. p y ≡ false → f y ≡ 0) x xs h) in
    grind arith

module _ (f : Reservation → ℕ) (n : ℕ) (r : Reservation) where
  -- One reservation in the place of another.
  pub total_change : (x : Reservation) (xs : List Reservation) → find n xs ≡ Some r → total f (change n x xs) + f r ≡ total f xs + f x
  total_change x [] h = cc
  total_change x (y ∷ ys) h = let more = total_change x ys in grind (arith, nat_tests)

  -- One reservation less.
  pub total_without : (xs : List Reservation) → find n xs ≡ Some r → total f (without n xs) + f r ≡ total f xs
  total_without [] h = cc
  total_without (y ∷ ys) h = let more = total_without ys in grind (arith, nat_tests)

  -- A reservation found counts.
  pub total_found : (xs : List Reservation) → find n xs ≡ Some r → f r ≤ total f xs
  total_found xs h = omega (arith, total_without xs h)

-- A filter of a mapped list filters what was mapped.
pub kept_map : {X Y : Type 0} (p : Y → Bool) (f : X → Y) (xs : List X) → filter p (map f xs) ≡ map f (filter (λ x. p (f x)) xs)
kept_map p f [] = refl
kept_map p f (x ∷ xs) = let more = kept_map p f xs in grind arith

-- The weights of the parts that pass are the weight of their sum.
pub total_weight : {X : Type 0} (p : X → Bool) (parts : X → ℕ) (xs : List X) → total (λ x. cond (p x) (weight (parts x)) 0) xs ≡ weight (total (λ x. cond (p x) (parts x) 0) xs)
total_weight p parts [] = sym weight_none
total_weight p parts (x ∷ xs) =
    let more = total_weight p parts xs in
    let rest = total (λ y. cond (p y) (parts y) 0) xs in
    let one = weight_sum (parts x) rest in
    let none = weight_sum 0 rest in
    grind (arith, weight_none)
