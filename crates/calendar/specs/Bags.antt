-- What the sorted list of a list says of its elements, equal ones counted.
-- Assumes nothing.
use Rattle.std.specs.Prelude.{◌≡◌, ◌+◌, Bool, true, false, cond, List, Decides, nat_lt}
use Rattle.calendar.specs.Orders.{alike}
use Rattle.calendar.specs.Queues.{filed, queue, without, holds, copies, Ascending, SameCopies}

-- The queue of a list is the one ascending list with as many copies of each element; filing adds a copy, and taking one out removes a copy where there is one.
pub record Bag {X : Type 0} (before : X → X → Bool) (xs : List X) : Type 0 where
  pub same : (x y : X) → Decides (alike before x y) (x ≡ y)
  pub member : (x : X) → holds before x xs ≡ nat_lt 0 (copies before x xs)
  pub copied : (x : X) → copies before x (queue before xs) ≡ copies before x xs
  pub ascends : Ascending before (queue before xs)
  pub one : (ys : List X) → SameCopies before xs ys → queue before xs ≡ queue before ys
  pub files : (x y : X) → copies before x (filed before y (queue before xs)) ≡ cond (alike before x y) 1 0 + copies before x xs
  pub takes : (x y : X) → holds before y xs ≡ true → cond (alike before x y) 1 0 + copies before x (without before y (queue before xs)) ≡ copies before x xs
  pub leaves : (y : X) → holds before y xs ≡ false → without before y (queue before xs) ≡ queue before xs
