-- How an element is filed into a sorted list, and what a list's queue is when the list is cut, changed or joined.
-- Assumes nothing.
use Rattle.std.proofs.Common.{◌≡◌, ℕ, suc, ◌+◌, ◌<◌, ◌≤◌, Bool, true, false, List, [], ◌∷◌, ◌++◌, length, get_or, take, drop, set, sym, refl, ap, ◌∙◌, subst, ⊎_elim, arith}
use lib.Seq.{take-set-lt}
use Rattle.std.proofs.lemmas.List.{append-nil, set-get_or, set_split, take_more, get_or-take, length-take-le}
use Rattle.std.proofs.lemmas.Bool.{cases_lt}
use Rattle.calendar.specs.Orders.{Total}
use Rattle.calendar.specs.Queues.{filed, queue, without}

module _ {X : Type 0} {before : X → X → Bool} (o : Total before) where
  -- two that do not compare one way compare the other way
  pub other_way : (x y : X) → before x y ≡ false → before y x ≡ true
  other_way x y no-x = let h = o.compares x y in grind arith

  pub itself : (x : X) → before x x ≡ true
  itself x = let h = o.compares x x in grind arith

  pub filed_comm : (x y : X) (q : List X) → filed before x (filed before y q) ≡ filed before y (filed before x q)
  filed_comm x y [] =
      let c = o.compares x y in
      let s = o.same x y in
      grind arith
  filed_comm x y (z ∷ zs) =
      let c = o.compares x y in
      let s = o.same x y in
      let p = o.passes x y z in
      let r = o.passes y x z in
      let i = filed_comm x y zs in
      grind arith

  -- one more at the end
  pub queue_push : (xs : List X) (x : X) → queue before (xs ++ x ∷ []) ≡ filed before x (queue before xs)
  queue_push [] x = refl
  queue_push (y ∷ xs) x = ap (filed before y) (queue_push xs x) ∙ filed_comm y x (queue before xs)

  -- one more in the middle
  pub queue_middle : (xs : List X) (y : X) (ys : List X) → queue before (xs ++ y ∷ ys) ≡ filed before y (queue before (xs ++ ys))
  queue_middle [] y ys = refl
  queue_middle (x ∷ xs) y ys = ap (filed before x) (queue_middle xs y ys) ∙ filed_comm x y (queue before (xs ++ ys))

  -- the order of two parts does not matter
  pub queue_append : (xs ys : List X) → queue before (xs ++ ys) ≡ queue before (ys ++ xs)
  queue_append [] ys = ap (queue before) (sym (append-nil ys))
  queue_append (x ∷ xs) ys = ap (filed before x) (queue_append xs ys) ∙ sym (queue_middle ys x xs)

  -- what was filed is taken out again
  pub without_filed : (x : X) (q : List X) → without before x (filed before x q) ≡ q
  without_filed x [] = let i = itself x in grind arith
  without_filed x (y ∷ ys) =
      let i = itself x in
      let h = without_filed x ys in
      grind arith

  -- another one is filed before or after
  pub without_other : (x y : X) (q : List X) → without before x (filed before y (filed before x q)) ≡ filed before y q
  without_other x y q = ap (without before x) (filed_comm y x q) ∙ without_filed x (filed before y q)

  -- the one at a place, and the rest
  pub queue_split : (xs : List X) (i : ℕ) (d : X) → i < length xs → queue before xs ≡ filed before (get_or xs i d) (queue before (take i xs ++ drop (suc i) xs))
  queue_split xs i d h =
      ap (queue before) (sym (set-get_or xs i d) ∙ set_split xs i (get_or xs i d) h)
      ∙ queue_middle (take i xs) (get_or xs i d) (drop (suc i) xs)

  -- one replaced
  pub queue_set : (xs : List X) (i : ℕ) (y d : X) → i < length xs → queue before (set xs i y) ≡ filed before y (without before (get_or xs i d) (queue before xs))
  queue_set xs i y d h =
      let rest = queue before (take i xs ++ drop (suc i) xs) in
      let was : without before (get_or xs i d) (queue before xs) ≡ rest =
      ap (without before (get_or xs i d)) (queue_split xs i d h) ∙ without_filed (get_or xs i d) rest in
      ap (queue before) (set_split xs i y h) ∙ queue_middle (take i xs) y (drop (suc i) xs) ∙ ap (filed before y) (sym was)

  -- one more of a list's front
  pub queue_more : (xs : List X) (m : ℕ) (d : X) → m < length xs → queue before (take (m + 1) xs) ≡ filed before (get_or xs m d) (queue before (take m xs))
  queue_more xs m d h = ap (queue before) (take_more xs m d h) ∙ queue_push (take m xs) (get_or xs m d)

  hole_last : (xs : List X) (m : ℕ) (d : X) → m < length xs → queue before (take m (set xs m (get_or xs m d))) ≡ without before (get_or xs m d) (queue before (take (m + 1) xs))
  hole_last xs m d h = rw (set-get_or, queue_more xs m d, without_filed)

  hole_below : (xs : List X) (m i : ℕ) (d : X) → i < m → m < length xs → queue before (take m (set xs i (get_or xs m d))) ≡ without before (get_or xs i d) (queue before (take (m + 1) xs))
  hole_below xs m i d lt h =
      let y : X = get_or xs i d in
      let last : X = get_or xs m d in
      let front : List X = take m xs in
      let within : i < length front = omega (arith, length-take-le m xs (omega arith)) in
      let rest : List X = queue before (take i front ++ drop (suc i) front) in
      let was : queue before front ≡ filed before y rest =
      queue_split front i d within ∙ ap (λ z. filed before z rest) (get_or-take m xs i d lt) in
      ap (queue before) (take-set-lt m xs i last lt)
      ∙ queue_set front i last d within
      ∙ ap (λ z. filed before last (without before z (queue before front))) (get_or-take m xs i d lt)
      ∙ ap (λ q. filed before last (without before y q)) was
      ∙ ap (filed before last) (without_filed y rest)
      ∙ sym (without_other y last rest)
      ∙ ap (λ q. without before y (filed before last q)) (sym was)
      ∙ ap (without before y) (sym (queue_more xs m d h))

  -- one at a place is taken out, and the last goes into the hole
  pub queue_hole : (xs : List X) (m i : ℕ) (d : X) → i ≤ m → m < length xs → queue before (take m (set xs i (get_or xs m d))) ≡ without before (get_or xs i d) (queue before (take (m + 1) xs))
  queue_hole xs m i d le h =
      ⊎_elim (λ lt. hole_below xs m i d lt h)
      (λ ge. let same : m ≡ i = omega arith in
      subst (λ (k : ℕ). queue before (take m (set xs k (get_or xs m d))) ≡ without before (get_or xs k d) (queue before (take (m + 1) xs))) same (hole_last xs m d h))
      (cases_lt i m)
