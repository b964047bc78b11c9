-- A calendar over the caller's places: what it holds, its refusal, and which places a call may write.
-- Assumes nothing.
use Rattle.std.specs.Prelude.{◌≡◌, ℕ, ◌+◌, ◌-◌, ◌<◌, min, Bool, true, false, cond, List, length, take, drop, Some, None, Ok, Err, Option, Result, ◌≢◌, nat_lt, slice_index_or, slice_set}
use Rattle.calendar.specs.declared.Calendar.{Calendar}
use Rattle.terms.specs.declared.refusals.Refusal.{Refusal}
use Rattle.terms.specs.declared.refusals.Refusal.TheVariants.{CalendarFull}
use Rattle.calendar.specs.Queues.{filed, queue, holds}

-- What a calendar holds: its count of the places from the front, or all of them where there are fewer.
abbrev pub held : {X : Type 0} → Calendar → List X → List X
held c places = take c.count places

-- The count of elements held.
abbrev pub size : {X : Type 0} → Calendar → List X → ℕ
size c places = min c.count (length places)

-- Whether there is a place for one more.
abbrev pub roomy : {X : Type 0} → Calendar → List X → Bool
roomy c places = nat_lt c.count (length places)

-- The calendar of a count.
abbrev pub counting : ℕ → Calendar
counting n = record { count = n }

-- Putting answers that it is done, or that the places are full.
abbrev pub put_answer : {X : Type 0} → Calendar → List X → Result (Unit {0}) Refusal
put_answer c places = cond (roomy c places) (Ok tt) (Err CalendarFull)

-- Putting raises the count by one, where there is a place.
abbrev pub put_calendar : {X : Type 0} → Calendar → List X → Calendar
put_calendar c places = cond (roomy c places) (counting (c.count + 1)) c

-- Putting writes the place after the held ones, where there is one, and no other.
abbrev pub put_places : {X : Type 0} → X → Calendar → List X → List X
put_places x c places = cond (roomy c places) (slice_set places c.count x) places

-- Putting files the element among those held, where there is a place.
abbrev pub put_queue : {X : Type 0} → (X → X → Bool) → X → Calendar → List X → List X
put_queue before x c places = cond (roomy c places) (filed before x (queue before (held c places))) (queue before (held c places))

-- ys is xs but for one place at most, which is among the first n; which place that is, and what stands there, is not fixed.
pub record OneWritten {X : Type 0} (n : ℕ) (xs ys : List X) : Type 0 where
  pub hole : ℕ
  pub elsewhere : (k : ℕ) (d : X) → (k ≢ hole) → slice_index_or ys k d ≡ slice_index_or xs k d
  pub past : drop n ys ≡ drop n xs

-- The calendar after a removal was asked for: one fewer than were held, or as it was where there was none to take.
abbrev pub less : {X : Type 0} → Option X → Calendar → List X → Calendar
less None c places = c
less (Some x) c places = counting (size c places - 1)

-- A removal that gave none has changed no place.
abbrev pub Kept : {X : Type 0} → Option X → List X → List X → Type 0
Kept None xs ys = ys ≡ xs
Kept (Some x) xs ys = Unit {0}

-- The one at a place is at most each of the first n.
abbrev pub LeastAt : {X : Type 0} → (X → X → Bool) → List X → ℕ → ℕ → Type 0
LeastAt {X} before xs n place = (place < n) × ((k : ℕ) (d : X) → k < n → before (slice_index_or xs place d) (slice_index_or xs k d) ≡ true)

-- A place of x in a list, or that x is not there.
abbrev pub FoundAt : {X : Type 0} → (X → X → Bool) → X → List X → Option ℕ → Type 0
FoundAt before x xs None = holds before x xs ≡ false
FoundAt {X} before x xs (Some place) = (place < length xs) × ((d : X) → slice_index_or xs place d ≡ x)
