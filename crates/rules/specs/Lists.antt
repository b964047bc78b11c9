-- Words on lists that the rules use: sums, and the reservation of a number in a list.
use Rattle.std.specs.Prelude.{ℕ, ◌+◌, cond, List, [], ◌∷◌, Some, None, Option, ◌==◌}
use Rattle.rules.specs.declared.types.Reservation.{Reservation}

-- The sum of f over a list.
abbrev pub total : {X : Type 0} → (X → ℕ) → List X → ℕ
total f [] = 0
total f (x ∷ xs) = f x + total f xs

-- The reservation with number n.
abbrev pub find : ℕ → List Reservation → Option Reservation
find n [] = None
find n (r ∷ rs) = cond (r.number == n) (Some r) (find n rs)

-- The list with r in the place of the reservation with number n.
abbrev pub change : ℕ → Reservation → List Reservation → List Reservation
change n r [] = []
change n r (x ∷ xs) = cond (x.number == n) (r ∷ xs) (x ∷ change n r xs)

-- The list without the reservation with number n.
abbrev pub without : ℕ → List Reservation → List Reservation
without n [] = []
without n (x ∷ xs) = cond (x.number == n) xs (x ∷ without n xs)
