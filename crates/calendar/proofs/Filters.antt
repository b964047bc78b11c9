-- A filter of a queue, and a queue whose first ones are taken until one passes a test.
-- Assumes nothing.
use Rattle.std.proofs.Common.{◌≡◌, Bool, true, false, cond, List, [], ◌∷◌, Some, filter, sym, refl, ap, ◌∙◌, ⊎_elim, arith}
use Rattle.std.proofs.lemmas.List.Elements.{All-cons, All-head, All-tail, All-filter}
use Rattle.std.proofs.lemmas.Bool.{cond_both, cond-true, cond-false, cases_Bool}
use Rattle.calendar.specs.Orders.{Total}
use Rattle.calendar.specs.Queues.{filed, queue, first, after, Ascending}
use Rattle.calendar.proofs.Sorted.{Heads, heads_weaker, filed_front, ascending_queue}

-- a test that passes, with an element, all that it is at most
abbrev pub Upward : {X : Type 0} → (X → X → Bool) → (X → Bool) → Type 0
Upward {X} before p = (x y : X) → before x y ≡ true → p x ≡ true → p y ≡ true

-- the list from its first element on that passes
abbrev pub from_first : {X : Type 0} → (X → Bool) → List X → List X
from_first p [] = []
from_first p (x ∷ xs) = cond (p x) (x ∷ xs) (from_first p xs)

module _ {X : Type 0} {before : X → X → Bool} (o : Total before) (p : X → Bool) where
  kept_front : (x : X) (q : List X) → Heads before x q → filter p (filed before x q) ≡ cond (p x) (filed before x (filter p q)) (filter p q)
  kept_front x q h =
      ap (filter p) (filed_front o x q h)
      ∙ ap (λ l. cond (p x) l (filter p q)) (sym (filed_front o x (filter p q) (All-filter p (λ y. before x y ≡ true) q h)))

  pub kept_filed : (x : X) (q : List X) → Ascending before q → filter p (filed before x q) ≡ cond (p x) (filed before x (filter p q)) (filter p q)
  kept_filed x [] asc = refl
  kept_filed x (y ∷ ys) asc =
      ⊎_elim
      (λ yes-x. kept_front x (y ∷ ys) (All-cons (λ z. before x z ≡ true) y ys yes-x (heads_weaker o x y ys yes-x asc.0)))
      (λ no-x. let h = kept_filed x ys asc.1 in grind arith)
      (cases_Bool (before x y))

  -- a filter of a queue is the queue of the filtered list
  pub kept_queue : (xs : List X) → filter p (queue before xs) ≡ queue before (filter p xs)
  kept_queue [] = refl
  kept_queue (x ∷ xs) =
      kept_filed x (queue before xs) (ascending_queue o xs)
      ∙ ap (λ q. cond (p x) (filed before x q) q) (kept_queue xs)
      ∙ cond_both (p x) _ _ (λ l. cond (p x) (filed before x (queue before (filter p xs))) (queue before (filter p xs)) ≡ queue before l) (λ e. cond-true (p x) _ _ e) (λ e. cond-false (p x) _ _ e)

  all_pass : (up : Upward before p) (x : X) (q : List X) → p x ≡ true → Heads before x q → filter p q ≡ q
  all_pass up x [] yes-x heads = refl
  all_pass up x (y ∷ ys) yes-x heads =
      let h = all_pass up x ys yes-x (All-tail (λ z. before x z ≡ true) y ys heads) in
      let k = up x y (All-head (λ z. before x z ≡ true) y ys heads) in
      grind arith

  -- where the first passes, all do
  pub kept_stops : Upward before p → (q : List X) (x : X) → Ascending before q → first q ≡ Some x → p x ≡ true → filter p q ≡ q
  kept_stops up [] x asc is yes-x = refl
  kept_stops up (y ∷ ys) x asc is yes-x =
      let same : y ≡ x = cc in
      let yes-y : p y ≡ true = ap p same ∙ yes-x in
      let h = all_pass up y ys yes-y asc.0 in
      grind arith

  -- a first one that does not pass is not kept
  pub kept_after : (q : List X) (x : X) → first q ≡ Some x → p x ≡ false → filter p (after q) ≡ filter p q
  kept_after [] x is no-x = refl
  kept_after (y ∷ ys) x is no-x =
      let same : y ≡ x = cc in
      let no-y : p y ≡ false = ap p same ∙ no-x in
      grind arith

  -- taking the first until it passes leaves what passes
  pub from_first_kept : Upward before p → (q : List X) → Ascending before q → from_first p q ≡ filter p q
  from_first_kept up [] asc = refl
  from_first_kept up (x ∷ q) asc =
      ⊎_elim
      (λ yes-x. let h = all_pass up x q yes-x asc.0 in grind arith)
      (λ no-x. let h = from_first_kept up q asc.1 in grind arith)
      (cases_Bool (p x))
