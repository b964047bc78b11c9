-- The sorted list: the one form of what a calendar holds, equal elements counted, whatever the places' arrangement.
-- Assumes nothing.
use Rattle.std.specs.Prelude.{◌≡◌, ℕ, ◌+◌, Bool, true, false, cond, ◌||◌, List, [], ◌∷◌, Some, None, Option}
use Rattle.std.specs.List.{All}
use Rattle.calendar.specs.Orders.{alike}

-- One more element in an ascending list: it stands before the first that it is at most.
abbrev pub filed : {X : Type 0} → (X → X → Bool) → X → List X → List X
filed before x [] = x ∷ []
filed before x (y ∷ ys) = cond (before x y) (x ∷ y ∷ ys) (y ∷ filed before x ys)

-- The elements of a list in ascending order.
abbrev pub queue : {X : Type 0} → (X → X → Bool) → List X → List X
queue before [] = []
queue before (x ∷ xs) = filed before x (queue before xs)

-- The first element of a list, or none.
abbrev pub first : {X : Type 0} → List X → Option X
first [] = None
first (x ∷ xs) = Some x

-- What stands after the first element.
abbrev pub after : {X : Type 0} → List X → List X
after [] = []
after (x ∷ xs) = xs

-- A list less one copy of an element, or the list itself where it has none.
abbrev pub without : {X : Type 0} → (X → X → Bool) → X → List X → List X
without before x [] = []
without before x (y ∷ ys) = cond (alike before x y) ys (y ∷ without before x ys)

-- Whether an element is in a list.
abbrev pub holds : {X : Type 0} → (X → X → Bool) → X → List X → Bool
holds before x [] = false
holds before x (y ∷ ys) = alike before x y || holds before x ys

-- The element where it is in a list, or none.
abbrev pub named : {X : Type 0} → (X → X → Bool) → X → List X → Option X
named before x xs = cond (holds before x xs) (Some x) None

-- How many copies of an element a list has.
abbrev pub copies : {X : Type 0} → (X → X → Bool) → X → List X → ℕ
copies before x [] = 0
copies before x (y ∷ ys) = cond (alike before x y) 1 0 + copies before x ys

-- An answer is an element of a list that is at most each of them, or none of an empty list.
abbrev pub Least : {X : Type 0} → (X → X → Bool) → List X → Option X → Type 0
Least before xs None = xs ≡ []
Least before xs (Some x) = (holds before x xs ≡ true) × All (λ y. before x y ≡ true) xs

-- Each element is at most all that follow it.
abbrev pub Ascending : {X : Type 0} → (X → X → Bool) → List X → Type 0
Ascending before [] = Unit {0}
Ascending before (x ∷ xs) = All (λ y. before x y ≡ true) xs × Ascending before xs

-- Two lists have equally many copies of every element.
abbrev pub SameCopies : {X : Type 0} → (X → X → Bool) → List X → List X → Type 0
SameCopies {X} before xs ys = (x : X) → copies before x xs ≡ copies before x ys
