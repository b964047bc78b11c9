-- What the queue of a list is, told by the copies of each element.
-- Assumes nothing.
use Rattle.std.proofs.Common.{◌≡◌, ◌+◌, Bool, true, cond, ltb, List, [], ◌∷◌, sym, refl, ap, ◌∙◌, subst, arith}
use Rattle.std.proofs.lemmas.Bool.Decides.{nat_tests}
use Rattle.calendar.specs.Orders.{Total, alike}
use Rattle.calendar.specs.Queues.{queue, without, holds, copies}
use Rattle.calendar.specs.Bags.{Bag}
use Rattle.calendar.proofs.Counts.{alike_same, alike_itself, copies_queue, copies_filed, copies_held, holds_queue, queue_same_copies, queue_without, without_none}
use Rattle.calendar.proofs.Sorted.{ascending_queue}

module _ {X : Type 0} {before : X → X → Bool} (o : Total before) where
  member : (x : X) (xs : List X) → holds before x xs ≡ ltb 0 (copies before x xs)
  member x [] = refl
  member x (y ∷ ys) = let h = member x ys in grind (arith, nat_tests)

  takes : (x y : X) (xs : List X) → holds before y xs ≡ true → cond (alike before x y) 1 0 + copies before x (without before y (queue before xs)) ≡ copies before x xs
  takes x y xs held =
      let out : copies before x (without before y (queue before xs)) ≡ copies before x (without before y xs) =
      ap (copies before x) (sym (queue_without o y xs)) ∙ copies_queue before x (without before y xs) in
      ap (λ n. cond (alike before x y) 1 0 + n) out ∙ sym (copies_held o x y xs held)

  pub bag : (xs : List X) → Bag before xs
  bag xs = record {
    same = λ x y. (alike_same o x y, λ e. subst (λ z. alike before x z ≡ true) e (alike_itself o x));
    member = λ x. member x xs;
    copied = λ x. copies_queue before x xs;
    ascends = ascending_queue o xs;
    one = queue_same_copies o xs;
    files = λ x y. copies_filed before x y (queue before xs) ∙ ap (λ n. cond (alike before x y) 1 0 + n) (copies_queue before x xs);
    takes = λ x y. takes x y xs;
    leaves = λ y none. without_none before y (queue before xs) (holds_queue before y xs ∙ none);
  }
