-- What a queue keeps of its list: any sum or count, what is held, and the copies of each element, which fix the queue.
-- Assumes nothing.
use Rattle.std.proofs.Common.{◌≡◌, ℕ, zero, suc, ◌+◌, ◌<◌, Bool, true, false, cond, ◌||◌, List, [], ◌∷◌, ◌++◌, length, get_or, filter, sum_by, sym, refl, ap, ◌∙◌, subst, ⊎_elim, not-suc-le-zero, arith}
use Rattle.std.specs.List.{All}
use Rattle.std.proofs.lemmas.Bool.{cond_both, cases_Bool}
use Rattle.std.proofs.lemmas.List.Elements.{All-head, All-tail}
use Rattle.std.proofs.lemmas.List.Sums.{sum_by-cons}
use Rattle.calendar.specs.Orders.{Total, alike}
use Rattle.calendar.specs.Queues.{filed, queue, without, holds, copies, SameCopies}
use Rattle.calendar.proofs.Filing.{itself, filed_comm, without_filed}

-- F adds up the elements one by one, in any order
module _ {X Y : Type 0} (before : X → X → Bool) (F : List X → Y) (step : X → Y → Y) (cons : (x : X) (xs : List X) → F (x ∷ xs) ≡ step x (F xs)) (comm : (x y : X) (a : Y) → step x (step y a) ≡ step y (step x a)) where
  pub fold_filed : (x : X) (q : List X) → F (filed before x q) ≡ step x (F q)
  fold_filed x [] = cons x []
  fold_filed x (y ∷ ys) =
      cond_both (before x y) _ _ (λ q. F q ≡ step x (F (y ∷ ys)))
      (λ _. cons x (y ∷ ys))
      (λ _. cons y (filed before x ys) ∙ ap (step y) (fold_filed x ys) ∙ comm y x (F ys) ∙ ap (step x) (sym (cons y ys)))

  pub fold_queue : (xs : List X) → F (queue before xs) ≡ F xs
  fold_queue [] = refl
  fold_queue (x ∷ xs) = fold_filed x (queue before xs) ∙ ap (step x) (fold_queue xs) ∙ sym (cons x xs)

module _ {X : Type 0} (before : X → X → Bool) where
  pub length_queue : (xs : List X) → length (queue before xs) ≡ length xs
  length_queue = fold_queue before length (λ _ n. suc n) (λ _ _. refl) (λ _ _ _. refl)

  pub sum_by_queue : (f : X → ℕ) (xs : List X) → sum_by f (queue before xs) ≡ sum_by f xs
  sum_by_queue f = fold_queue before (sum_by f) (λ x n. f x + n) (sum_by-cons f) (λ x y n. omega arith)

  pub holds_filed : (z x : X) (q : List X) → holds before z (filed before x q) ≡ (alike before z x || holds before z q)
  holds_filed z = fold_filed before (holds before z) (λ x b. alike before z x || b) (λ _ _. refl) (λ x y b. grind arith)

  pub holds_queue : (z : X) (xs : List X) → holds before z (queue before xs) ≡ holds before z xs
  holds_queue z = fold_queue before (holds before z) (λ x b. alike before z x || b) (λ _ _. refl) (λ x y b. grind arith)

  pub copies_filed : (z x : X) (q : List X) → copies before z (filed before x q) ≡ cond (alike before z x) 1 0 + copies before z q
  copies_filed z = fold_filed before (copies before z) (λ x n. cond (alike before z x) 1 0 + n) (λ _ _. refl) (λ x y n. omega arith)

  pub copies_queue : (z : X) (xs : List X) → copies before z (queue before xs) ≡ copies before z xs
  copies_queue z = fold_queue before (copies before z) (λ x n. cond (alike before z x) 1 0 + n) (λ _ _. refl) (λ x y n. omega arith)

  pub holds_append : (x : X) (xs ys : List X) → holds before x (xs ++ ys) ≡ (holds before x xs || holds before x ys)
  holds_append x [] ys = refl
  holds_append x (z ∷ xs) ys = let h = holds_append x xs ys in grind arith

  pub copies_push : (x : X) (xs : List X) (y : X) → copies before x (xs ++ y ∷ []) ≡ copies before x xs + cond (alike before x y) 1 0
  copies_push x [] y = omega arith
  copies_push x (z ∷ xs) y = omega (arith, copies_push x xs y)

  -- the copies are those that a filter keeps
  pub copies_filter : (x : X) (xs : List X) → length (filter (alike before x) xs) ≡ copies before x xs
  copies_filter x [] = refl
  copies_filter x (y ∷ ys) = let h = copies_filter x ys in grind arith

  -- one that is not held is not taken out
  pub without_none : (x : X) (xs : List X) → holds before x xs ≡ false → without before x xs ≡ xs
  without_none x [] none = refl
  without_none x (y ∷ ys) none = let h = without_none x ys in grind arith

  -- one that has copies is held
  pub holds_from_copies : (x : X) (xs : List X) → 0 < copies before x xs → holds before x xs ≡ true
  holds_from_copies x [] some = absurd (not-suc-le-zero some)
  holds_from_copies x (y ∷ ys) some = let h = holds_from_copies x ys in grind arith

module _ {X : Type 0} {before : X → X → Bool} (o : Total before) where
  pub alike_same : (x y : X) → alike before x y ≡ true → x ≡ y
  alike_same x y h = let s = o.same x y in grind arith

  pub alike_itself : (x : X) → alike before x x ≡ true
  alike_itself x = let i = itself o x in grind arith

  -- the one at a place is held
  pub holds_at : (xs : List X) (i : ℕ) (d : X) → i < length xs → holds before (get_or xs i d) xs ≡ true
  holds_at [] i d h = absurd (not-suc-le-zero h)
  holds_at (x ∷ xs) zero d h = let i = alike_itself x in grind arith
  holds_at (x ∷ xs) (suc i) d h = let r : holds before (get_or xs i d) xs ≡ true = holds_at xs i d (omega arith) in grind arith

  -- what holds of each element holds of one that is held
  pub all_holds : (P : X → Type 0) (x : X) (xs : List X) → All P xs → holds before x xs ≡ true → P x
  all_holds P x [] all h = cc
  all_holds P x (y ∷ ys) all h =
      ⊎_elim (λ e. subst P (sym (alike_same x y e)) (All-head P y ys all)) (λ e. all_holds P x ys (All-tail P y ys all) (rw e at h)) (cases_Bool (alike before x y))

  -- one that is held is filed among the others
  pub queue_held : (x : X) (xs : List X) → holds before x xs ≡ true → queue before xs ≡ filed before x (queue before (without before x xs))
  queue_held x [] h = cc
  queue_held x (y ∷ ys) h =
      ⊎_elim
      (λ e. rw e (ap (λ z. filed before z (queue before ys)) (sym (alike_same x y e))))
      (λ e.
      let held : holds before x ys ≡ true = rw e at h in
      rw e (ap (filed before y) (queue_held x ys held) ∙ filed_comm o y x (queue before (without before x ys))))
      (cases_Bool (alike before x y))

  -- taking one copy out of a list or of its queue comes to the same
  pub queue_without : (x : X) (xs : List X) → queue before (without before x xs) ≡ without before x (queue before xs)
  queue_without x xs =
      ⊎_elim
      (λ held. sym (ap (without before x) (queue_held x xs held) ∙ without_filed o x (queue before (without before x xs))))
      (λ none. ap (queue before) (without_none before x xs none) ∙ sym (without_none before x (queue before xs) (holds_queue before x xs ∙ none)))
      (cases_Bool (holds before x xs))

  pub copies_held : (z x : X) (xs : List X) → holds before x xs ≡ true → copies before z xs ≡ cond (alike before z x) 1 0 + copies before z (without before x xs)
  copies_held z x xs h =
      sym (copies_queue before z xs) ∙ ap (copies before z) (queue_held x xs h)
      ∙ copies_filed before z x (queue before (without before x xs))
      ∙ ap (λ n. cond (alike before z x) 1 0 + n) (copies_queue before z (without before x xs))

  -- two lists with equally many copies of every element have one queue
  pub queue_same_copies : (xs ys : List X) → SameCopies before xs ys → queue before xs ≡ queue before ys
  queue_same_copies [] [] same = refl
  queue_same_copies [] (y ∷ ys) same = let z : ◌≡◌ {A = ℕ} 0 (cond (alike before y y) 1 0 + copies before y ys) = same y in let i = alike_itself y in grind arith
  queue_same_copies (x ∷ xs) ys same =
      let some : 0 < copies before x (x ∷ xs) = (let i = alike_itself x in grind arith) in
      let held = holds_from_copies before x ys (subst (λ n. 0 < n) (same x) some) in
      let less : SameCopies before xs (without before x ys) = λ z. omega (arith, same z, copies_held z x ys held) in
      ap (filed before x) (queue_same_copies xs (without before x ys) less) ∙ sym (queue_held x ys held)
