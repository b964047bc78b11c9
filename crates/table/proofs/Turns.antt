-- The rows at one turn of a pass: those before the place are done, the others as they were.
use Rattle.std.proofs.Common.{◌≡◌, ℕ, ◌-◌, ◌<◌, ◌≤◌, List, ◌++◌, map, length, get_or, take, drop, ap, ◌∙◌, add-zero, arith}
use Rattle.std.proofs.lemmas.List.{append-nil, length-map, length-take-le, get_or-append_right, get_or-drop, take_all, drop_all}

module _ {X : Type 0} (f : X → X) (xs ys : List X) (i : ℕ) (over : ys ≡ map f (take i xs) ++ drop i xs) where
  pub at_over : (d : X) → i < length xs → get_or ys i d ≡ get_or xs i d
  at_over d h =
      let done : length (map f (take i xs)) ≡ i = length-map (take i xs) f ∙ length-take-le i xs (omega arith) in
      let here : i - i ≡ 0 = omega arith in
      ap (λ zs. get_or zs i d) over
      ∙ get_or-append_right (map f (take i xs)) (drop i xs) i i d done (omega arith)
      ∙ ap (λ k. get_or (drop i xs) k d) here
      ∙ get_or-drop i xs 0 d
      ∙ ap (λ k. get_or xs k d) (add-zero i)

  pub all_over : length xs ≤ i → ys ≡ map f xs
  all_over h =
      over
      ∙ ap (λ zs. map f zs ++ drop i xs) (take_all i xs h)
      ∙ ap (λ zs. map f xs ++ zs) (drop_all i xs h)
      ∙ append-nil (map f xs)
