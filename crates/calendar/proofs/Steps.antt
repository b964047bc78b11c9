-- What each function's return and each turn of its loop come to, over plain lists.
-- Assumes nothing.
use Rattle.std.proofs.Common.{◌≡◌, ℕ, suc, ◌+◌, ◌-◌, ◌<◌, ◌≤◌, min, Bool, true, false, cond, List, [], ◌∷◌, ◌++◌, length, get_or, take, drop, set, Some, None, Option, sym, refl, ap, ◌∙◌, ⊎_elim, arith}
use Rattle.std.proofs.lemmas.List.{get_or_read, get_or-take, length-take, length-take-le, nil_from_length, take_all, take_min, take_more, take_more_set, get_or-set_other, drop-set-lt}
use Rattle.std.specs.List.{AllWithin, HoldsAt}
use Rattle.std.specs.Option.{MatchOption}
use Rattle.std.proofs.lemmas.List.Elements.{All-from_get_or}
use Rattle.std.proofs.lemmas.Bool.{cases_lt}
use Rattle.calendar.specs.Orders.{Total, alike}
use Rattle.calendar.specs.Queues.{filed, queue, first, without, holds, copies, Least}
use Rattle.calendar.specs.Places.{held, size, counting, OneWritten, LeastAt, FoundAt}
use Rattle.calendar.specs.declared.Calendar.{Calendar}
use Rattle.calendar.proofs.Filing.{other_way, itself, queue_push, queue_hole}
use Rattle.calendar.proofs.Sorted.{Heads, queue_least, first_none, first_some}
use Rattle.calendar.proofs.Counts.{alike_same, copies_push, holds_append, holds_at, holds_queue, without_none}

-- one read at a held place
pub held_read : {X : Type 0} (c : Calendar) (xs : List X) (p : ℕ) (r : X) → p < length (held c xs) → r ≡ get_or xs p r → r ≡ get_or (held c xs) p r
held_read c xs p r lt isr = isr ∙ sym (get_or-take c.count xs p r (omega (arith, length-take c.count xs)))

-- the count of places held says what is held
pub take_size : {X : Type 0} (xs : List X) (c n : ℕ) → n ≡ min c (length xs) → take c xs ≡ take n xs
take_size xs c n is =
    ⊎_elim (λ lt. let same : c ≡ n = omega arith in ap (λ k. take k xs) same)
    (λ ge. take_all c xs ge ∙ sym (take_all n xs (omega arith)))
    (cases_lt c (length xs))

-- one more is counted
pub copies_more : {X : Type 0} (before : X → X → Bool) (x : X) (xs : List X) (i : ℕ) (y : X) → i < length xs → y ≡ get_or xs i y → copies before x (take (i + 1) xs) ≡ copies before x (take i xs) + cond (alike before x y) 1 0
copies_more before x xs i y within isy =
    ap (copies before x) (take_more xs i y within ∙ ap (λ z. take i xs ++ z ∷ []) (sym isy)) ∙ copies_push before x (take i xs) y

-- where no place is held nothing is
pub nothing : {X : Type 0} (xs : List X) (c n : ℕ) → n ≡ min c (length xs) → n ≡ 0 → take c xs ≡ []
nothing xs c n is none = take_size xs c n is ∙ ap (λ k. take k xs) none

-- one place is written, among the first n
pub one_written : {X : Type 0} (xs ys : List X) (n p : ℕ) (y : X) → p < n → ys ≡ set xs p y → OneWritten n xs ys
one_written xs ys n p y h is = record {
  hole = p;
  elsewhere = λ k d ne. ap (λ zs. get_or zs k d) is ∙ get_or-set_other xs p k y d ne;
  past = ap (drop n) is ∙ drop-set-lt n xs p y h;
}

pub none_written : {X : Type 0} (xs : List X) (n : ℕ) → OneWritten n xs xs
none_written xs n = record { hole = 0; elsewhere = λ k d ne. refl; past = refl }

-- what taking r out comes to
pub record Taken {X : Type 0} (before : X → X → Bool) (r : X) (c c' : Calendar) (xs ys : List X) : Type 0 where
  pub next : c' ≡ counting (size c xs - 1)
  pub ordered : queue before (held c' ys) ≡ without before r (queue before (held c xs))
  pub written : OneWritten (size c xs) xs ys

module _ {X : Type 0} {before : X → X → Bool} (o : Total before) where
  -- a turn of the search for the least that keeps the place
  pub least_keeps : (xs : List X) (i p : ℕ) (x y : X) → LeastAt before xs i p → i < length xs → x ≡ get_or xs i x → y ≡ get_or xs p y → before y x ≡ true → LeastAt before xs (i + 1) p
  least_keeps xs i p x y (lt, all) within isx isy h = (
    omega arith,
    λ k d below. ⊎_elim (λ less. all k d less) (λ ge.
        let here : k ≡ i = omega arith in
        let ex = get_or_read xs i x within isx d in
        let ey = get_or_read xs p y (omega arith) isy d in
        let goal : before (get_or xs p d) (get_or xs i d) ≡ true = rw (← ex, ← ey) h in
        rw here goal) (cases_lt k i),
  )

  -- a turn that takes the new place
  pub least_takes : (xs : List X) (i p : ℕ) (x y : X) → LeastAt before xs i p → i < length xs → x ≡ get_or xs i x → y ≡ get_or xs p y → before y x ≡ false → LeastAt before xs (i + 1) i
  least_takes xs i p x y (lt, all) within isx isy h = (
    omega arith,
    λ k d below.
        let ex = get_or_read xs i x within isx d in
        let ey = get_or_read xs p y (omega arith) isy d in
        let up : before (get_or xs i d) (get_or xs p d) ≡ true = rw (← ex, ← ey) (other_way o y x h) in
        ⊎_elim (λ less. o.passes _ _ _ up (all k d less)) (λ ge.
        let here : k ≡ i = omega arith in
        rw here (itself o (get_or xs i d))) (cases_lt k i),
  )

  -- one more is put
  pub put_ordered : (xs : List X) (n : ℕ) (x : X) → n < length xs → queue before (take (n + 1) (set xs n x)) ≡ filed before x (queue before (take n xs))
  put_ordered xs n x h = ap (queue before) (take_more_set xs n x h) ∙ queue_push o (take n xs) x

  -- the least, as a member that is at most all
  pub least_is : (xs : List X) (r : Option X) → r ≡ first (queue before xs) → Least before xs r
  least_is xs None is = first_none o xs (sym is)
  least_is xs (Some x) is = first_some o xs x (sym is)

  -- the one at a least place stands first
  pub least_first : (xs : List X) (p : ℕ) (r : X) → LeastAt before xs (length xs) p → r ≡ get_or xs p r → queue before xs ≡ r ∷ without before r (queue before xs)
  least_first xs p r (lt, all) isr =
      let heads : Heads before r xs = All-from_get_or (λ y. before r y ≡ true) xs r (λ k h. let q : before (get_or xs p r) (get_or xs k r) ≡ true = all k r h in rw (← isr) at q) in
      rw (← isr) at (queue_least o xs p r lt (rw isr at heads))

  -- the one read at a least place, or none of no places, is the first
  pub least_read : (xs : List X) (s : Option ℕ) (r : Option X) → MatchOption s (length xs ≡ 0) (LeastAt before xs (length xs)) → MatchOption s (r ≡ None) (λ p. (x : X) × (r ≡ Some x) × (x ≡ get_or xs p x)) → r ≡ first (queue before xs)
  least_read xs None r none is = is ∙ sym (ap (λ ys. first (queue before ys)) (nil_from_length xs none))
  least_read xs (Some p) r at (x, is, isx) = is ∙ sym (ap first (least_first xs p x at isx))

  -- one is taken out at a held place
  pub taken : (c c' : Calendar) (xs ys : List X) (p : ℕ) (r : X) → p < length (held c xs) → r ≡ get_or xs p r → c' ≡ counting (size c xs - 1) → ys ≡ set xs p (get_or xs (size c xs - 1) r) → queue before (held c' ys) ≡ without before r (queue before (held c xs))
  taken c c' xs ys p r lt isr next set_is =
      let n = size c xs in
      let within : p < n = omega (arith, length-take c.count xs) in
      let m : n - 1 + 1 ≡ n = omega arith in
      let hole = queue_hole o xs (n - 1) p r (omega arith) (omega arith) in
      rw (next, set_is) (rw (← isr, m, take_min) at hole)

  -- a turn of the search for one that is not at this place
  pub not_here : (xs : List X) (i : ℕ) (x y : X) → holds before x (take i xs) ≡ false → i < length xs → y ≡ get_or xs i y → alike before x y ≡ false → holds before x (take (i + 1) xs) ≡ false
  not_here xs i x y none within isy apart =
      let more : take (i + 1) xs ≡ take i xs ++ y ∷ [] = take_more xs i y within ∙ ap (λ z. take i xs ++ z ∷ []) (sym isy) in
      let joined = holds_append before x (take i xs) (y ∷ []) in
      rw (more, joined, none, apart)

  -- the one looked for is at this place
  pub here : (xs : List X) (n i : ℕ) (x y : X) → i < n → n ≤ length xs → y ≡ get_or xs i y → alike before x y ≡ true → FoundAt before x (take n xs) (Some i)
  here xs n i x y lt le isy same =
      (omega (arith, length-take-le n xs le), λ d. get_or-take n xs i d lt ∙ sym (get_or_read xs i y (omega arith) isy d) ∙ sym (alike_same o x y same))

  not_held : (x : X) (xs : List X) → AllWithin (λ y. alike before x y ≡ false) xs 0 (length xs) → holds before x xs ≡ false
  not_held x [] none = refl
  not_held x (y ∷ ys) none =
      let here : alike before x y ≡ false = none 0 y (omega arith) (omega arith) in
      let rest : holds before x ys ≡ false = not_held x ys (λ k d from below. none (suc k) d (omega arith) (omega arith)) in
      grind arith

  -- the first that is the one looked for, or none
  pub found_at : (x : X) (xs : List X) (r : Option ℕ) → MatchOption r (AllWithin (λ y. alike before x y ≡ false) xs 0 (length xs)) (λ i. (i < length xs) × HoldsAt (λ y. alike before x y ≡ true) xs i × AllWithin (λ y. alike before x y ≡ false) xs 0 i) → FoundAt before x xs r
  found_at x xs None none = not_held x xs none
  found_at x xs (Some i) (lt, here, before_it) = (lt, λ d. sym (alike_same o x (get_or xs i d) (here d)))

  -- one that was not found is not taken out
  pub missed : (x : X) (xs : List X) → holds before x xs ≡ false → queue before xs ≡ without before x (queue before xs)
  missed x xs away = sym (without_none before x (queue before xs) (holds_queue before x xs ∙ away))

  -- the one found is the one looked for, and is held
  pub found : (c : Calendar) (xs : List X) (p : ℕ) (x r : X) → FoundAt before x (held c xs) (Some p) → r ≡ get_or xs p r → (r ≡ x) × (holds before x (held c xs) ≡ true)
  found c xs p x r (lt, at) isr =
      let same : r ≡ x = held_read c xs p r lt isr ∙ at r in
      let here : holds before (get_or (held c xs) p r) (held c xs) ≡ true = holds_at o (held c xs) p r lt in
      (same, rw (at r) at here)
