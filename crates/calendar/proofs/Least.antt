-- What the scan for the least comes to, as a chain over the places.
-- Assumes nothing.
use Rattle.std.proofs.Common.{◌≡◌, ℕ, ◌+◌, ◌<◌, ◌≤◌, Bool, cond, List, [], ◌∷◌, length, get_or, drop, fold, Some, None, Option, refl, ap, subst, arith}
use Rattle.std.specs.List.{enumerate_from, reduce, FoldsTo}
use Rattle.std.specs.Option.{MatchOption, option_map}
use Rattle.std.specs.Iterator.{Drains, ReducesItems, FoldTurn}
use Rattle.std.specs.Fn.{Called}
use Rattle.std.proofs.lemmas.Bool.{cond_both}
use Rattle.std.proofs.lemmas.List.{drop_more, length-drop}
use Rattle.std.proofs.lemmas.Iterator.{YieldsList}
use Rattle.std.proofs.lemmas.Iterator.Consumers.{reduce_from_yields_List}
use denote.Param.Members.{Mut}
use Rattle.calendar.specs.Orders.{Total}
use Rattle.calendar.specs.Places.{LeastAt}
use Rattle.calendar.proofs.Filing.{itself}
use Rattle.calendar.proofs.Steps.{least_keeps, least_takes}

-- a `reduce` whose closure computes h
module _ {F A : Type 0} (g : Mut F (A × (A × Unit {0})) A) (h : A → A → A) (f : F) (computes : (p x q : A) (k : F) → Called g f (p, (x, tt)) q k → (k ≡ f) × (q ≡ h p x)) where
  folds : (xs : List A) (p : A) (q : F × A) → FoldsTo (FoldTurn g) (f, p) xs q → FoldsTo (λ p z c. c ≡ h p z) p xs q.1
  folds [] p q is = ap (λ u. u.1) is
  folds (x ∷ xs) p q (u, turn, rest) =
      let (same, is) = computes p x u.1 u.0 turn in
      (u.1, is, folds xs u.1 q (subst (λ k. FoldsTo (FoldTurn g) (k, u.1) xs q) same rest))

  module _ {S : Type 0} {steps : S → Option A → S → Type 0} where
    pub reduced : {s : S} {all : List A} (r : Option A) → ReducesItems steps g s f r → YieldsList steps (λ x. x) s all → r ≡ reduce h all
    reduced {s} {all} r ran road = reduce_from_yields_List h s r (turns r ran) road
      where
        turns : (r : Option A) → ReducesItems steps g s f r → MatchOption r (Drains steps s []) (λ y. (x : A) × (xs : List A) × Drains steps s (x ∷ xs) × FoldsTo (λ p z c. c ≡ h p z) x xs y)
        turns None none = none
        turns (Some y) (x, xs, k, drains, turned) = (x, xs, drains, folds xs x (k, y) turned)

-- of two elements with their places, the second only where the first is not at most it
abbrev pub lesser : {X : Type 0} → (X → X → Bool) → ℕ × X → ℕ × X → ℕ × X
lesser before p z = cond (before p.1 z.1) p z

module _ {X : Type 0} {before : X → X → Bool} (o : Total before) where
  scan : (xs : List X) (n : ℕ) (rest : List X) (p : ℕ × X) → n ≤ length xs → drop n xs ≡ rest → LeastAt before xs n p.0 → p.1 ≡ get_or xs p.0 p.1 → LeastAt before xs (length xs) (fold (lesser before) p (enumerate_from n rest)).0
  scan xs n [] p le is at read =
      let end : n ≡ length xs = omega (arith, ap length is, length-drop n xs) in
      subst (λ k. LeastAt before xs k p.0) end at
  scan xs n (y ∷ ys) p le is at read =
      let within : n < length xs = omega (arith, ap length is, length-drop n xs) in
      let split = drop_more xs n y within in
      let here : y ≡ get_or xs n y = cc in
      let rest : drop (n + 1) xs ≡ ys = cc in
      cond_both (before p.1 y) p (n, y) (λ q. LeastAt before xs (length xs) (fold (lesser before) q (enumerate_from (n + 1) ys)).0)
      (λ yes-p. scan xs (n + 1) ys p (omega arith) rest (least_keeps o xs n p.0 y p.1 at within here read yes-p) read)
      (λ no-p. scan xs (n + 1) ys (n, y) (omega arith) rest (least_takes o xs n p.0 y p.1 at within here read no-p) here)

  -- the place of a least one
  pub scanned : (xs : List X) → MatchOption (option_map (λ p. p.0) (reduce (lesser before) (enumerate_from 0 xs))) (length xs ≡ 0) (LeastAt before xs (length xs))
  scanned [] = refl
  scanned (x ∷ xs) = scan (x ∷ xs) 1 xs (0, x) (omega arith) refl (omega arith, λ k d below. let first : k ≡ 0 = omega arith in rw first (itself o x)) refl
