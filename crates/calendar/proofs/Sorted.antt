-- A queue ascends: its first is at most all, and the least of a list stands first in its queue.
-- Assumes nothing.
use Rattle.std.proofs.Common.{◌≡◌, ℕ, suc, ◌<◌, Bool, true, List, [], ◌∷◌, ◌++◌, length, get_or, take, drop, Some, None, sym, refl, ap, ◌∙◌, ⊎_elim, arith}
use Rattle.std.specs.List.{All}
use Rattle.std.proofs.lemmas.Bool.{cond-true, cond_both, cases_Bool}
use Rattle.std.proofs.lemmas.List.Elements.{All-nil, All-cons, All-head, All-tail, All-weaker, All-append, All-take, All-drop}
use Rattle.calendar.specs.Orders.{Total}
use Rattle.calendar.specs.Queues.{filed, queue, first, without, holds, Ascending}
use Rattle.calendar.proofs.Counts.{holds_queue}
use Rattle.calendar.proofs.Filing.{other_way, itself, queue_split, without_filed}

-- x is at most each of these
abbrev pub Heads : {X : Type 0} → (X → X → Bool) → X → List X → Type 0
Heads before x q = All (λ y. before x y ≡ true) q

module _ {X : Type 0} {before : X → X → Bool} (o : Total before) where
  pub all_filed : (P : X → Type 0) (x : X) (q : List X) → P x → All P q → All P (filed before x q)
  all_filed P x [] px all = All-cons P x [] px all
  all_filed P x (y ∷ ys) px all =
      cond_both (before x y) _ _ (All P) (λ _. All-cons P x (y ∷ ys) px all) (λ _. All-cons P y (filed before x ys) (All-head P y ys all) (all_filed P x ys px (All-tail P y ys all)))

  -- what holds of each element of a list holds of each in its queue
  pub all_queue : (P : X → Type 0) (xs : List X) → All P xs → All P (queue before xs)
  all_queue P [] all = all
  all_queue P (x ∷ xs) all = all_filed P x (queue before xs) (All-head P x xs all) (all_queue P xs (All-tail P x xs all))

  -- one that is at most another is at most all that the other is
  pub heads_weaker : (x y : X) (q : List X) → before x y ≡ true → Heads before y q → Heads before x q
  heads_weaker x y q h = All-weaker (λ z. before y z ≡ true) (λ z. before x z ≡ true) (λ z k. o.passes x y z h k) q

  pub ascending_filed : (x : X) (q : List X) → Ascending before q → Ascending before (filed before x q)
  ascending_filed x [] asc = (All-nil (λ y. before x y ≡ true), tt)
  ascending_filed x (y ∷ ys) asc =
      cond_both (before x y) _ _ (Ascending before)
      (λ yes-x. (All-cons (λ z. before x z ≡ true) y ys yes-x (heads_weaker x y ys yes-x asc.0), asc))
      (λ no-x. (all_filed (λ z. before y z ≡ true) x ys (other_way o x y no-x) asc.0, ascending_filed x ys asc.1))

  pub ascending_queue : (xs : List X) → Ascending before (queue before xs)
  ascending_queue [] = tt
  ascending_queue (x ∷ xs) = ascending_filed x (queue before xs) (ascending_queue xs)

  -- one that is at most all others is filed in front
  pub filed_front : (x : X) (q : List X) → Heads before x q → filed before x q ≡ x ∷ q
  filed_front x [] h = refl
  filed_front x (y ∷ ys) h = cond-true (before x y) _ _ (All-head (λ z. before x z ≡ true) y ys h)

  -- a list that ascends is its own queue
  pub queue_ascending : (q : List X) → Ascending before q → queue before q ≡ q
  queue_ascending [] asc = refl
  queue_ascending (x ∷ q) asc = ap (filed before x) (queue_ascending q asc.1) ∙ filed_front x q asc.0

  -- the first is taken out
  pub without_first : (x : X) (q : List X) → without before x (x ∷ q) ≡ q
  without_first x q = let i = itself o x in grind arith

  -- the one at a place is at most all: it stands first, and the others after it
  pub queue_least : (xs : List X) (i : ℕ) (d : X) → i < length xs → Heads before (get_or xs i d) xs → queue before xs ≡ get_or xs i d ∷ without before (get_or xs i d) (queue before xs)
  queue_least xs i d h heads =
      let x : X = get_or xs i d in
      let rest : List X = take i xs ++ drop (suc i) xs in
      let P : X → Type 0 = λ y. before x y ≡ true in
      let front : filed before x (queue before rest) ≡ x ∷ queue before rest =
      filed_front x (queue before rest) (all_queue P rest (All-append P (take i xs) (drop (suc i) xs) (All-take P i xs heads) (All-drop P (suc i) xs heads))) in
      let split = queue_split o xs i d h in
      let out : without before x (queue before xs) ≡ queue before rest = ap (without before x) split ∙ without_filed o x (queue before rest) in
      split ∙ front ∙ ap (λ q. x ∷ q) (sym out)

  all_unfiled : (P : X → Type 0) (x : X) (q : List X) → All P (filed before x q) → P x × All P q
  all_unfiled P x [] all = (All-head P x [] all, All-tail P x [] all)
  all_unfiled P x (y ∷ ys) all =
      ⊎_elim
      (λ yes-x. let rest : All P (x ∷ y ∷ ys) = rw yes-x at all in (All-head P x (y ∷ ys) rest, All-tail P x (y ∷ ys) rest))
      (λ no-x. let rest : All P (y ∷ filed before x ys) = rw no-x at all in
      let more = all_unfiled P x ys (All-tail P y (filed before x ys) rest) in
      (more.0, All-cons P y ys (All-head P y (filed before x ys) rest) more.1))
      (cases_Bool (before x y))

  -- what holds of each element in a queue holds of each in its list
  pub all_from_queue : (P : X → Type 0) (xs : List X) → All P (queue before xs) → All P xs
  all_from_queue P [] all = all
  all_from_queue P (x ∷ xs) all = let parts = all_unfiled P x (queue before xs) all in All-cons P x xs parts.0 (all_from_queue P xs parts.1)

  -- a queue has no first only where there is nothing
  pub first_none : (xs : List X) → first (queue before xs) ≡ None → xs ≡ []
  first_none [] none = refl
  first_none (x ∷ xs) none = absurd (filed_some x (queue before xs) none)
    where
      filed_some : (z : X) (q : List X) → first (filed before z q) ≡ None → ⊥
      filed_some z [] h = cc
      filed_some z (y ∷ ys) h = grind arith

  first_of : (x : X) (q : List X) → first q ≡ Some x → (rest : List X) × (q ≡ x ∷ rest)
  first_of x [] is = cc
  first_of x (y ∷ ys) is = (ys, cc)

  -- the first of a queue is in the list, and is at most all
  pub first_some : (xs : List X) (x : X) → first (queue before xs) ≡ Some x → (holds before x xs ≡ true) × Heads before x xs
  first_some xs x is =
      let (rest, split) = first_of x (queue before xs) is in
      let held : holds before x (x ∷ rest) ≡ true = (let i = itself o x in grind arith) in
      let asc : Ascending before (x ∷ rest) = rw split at (ascending_queue xs) in (
        sym (holds_queue before x xs) ∙ ap (holds before x) split ∙ held,
        all_from_queue (λ y. before x y ≡ true) xs (rw split (All-cons (λ y. before x y ≡ true) x rest (itself o x) asc.0)),
      )
