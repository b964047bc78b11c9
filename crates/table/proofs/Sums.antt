-- The parts of the live reservations on a core, one more at a time.
use Rattle.std.proofs.Common.{◌≡◌, ℕ, ◌+◌, ◌<◌, cond, eqb, List, [], ◌∷◌, ◌++◌, length, get_or, take, ap, ◌∙◌, arith}
use Rattle.std.proofs.lemmas.List.{take_more}
use Rattle.std.proofs.lemmas.Bool.Decides.{nat_tests}
use Rattle.rules.specs.declared.types.Reservation.{Reservation}
use Rattle.rules.specs.Lists.{total}
use Rattle.rules.specs.Parts.{live_parts}

total_push : {X : Type 0} (f : X → ℕ) (xs : List X) (y : X) → total f (xs ++ y ∷ []) ≡ total f xs + f y
total_push f [] y = omega arith
total_push f (x ∷ xs) y = omega (arith, total_push f xs y)

-- one row more, on the core or not
module _ (c : ℕ) (rs : List Reservation) (i : ℕ) (d : Reservation) (within : i < length rs) where
  more : live_parts c (take (i + 1) rs) ≡ live_parts c (take i rs) + cond (eqb (get_or rs i d).core c) (get_or rs i d).parts 0
  more =
      ap (live_parts c) (take_more rs i d within)
      ∙ total_push (λ r. cond (eqb r.core c) r.parts 0) (take i rs) (get_or rs i d)

  pub parts_here : (get_or rs i d).core ≡ c → live_parts c (take (i + 1) rs) ≡ live_parts c (take i rs) + (get_or rs i d).parts
  parts_here is = let m = more in grind (arith, nat_tests)

  pub parts_elsewhere : ((get_or rs i d).core ≡ c → ⊥) → live_parts c (take (i + 1) rs) ≡ live_parts c (take i rs)
  parts_elsewhere is = let m = more in grind (arith, nat_tests)
