-- What a core counts of entries is the sum over those that count, and a sum over a list's front, one entry more.
use Rattle.std.proofs.Common.{◌≡◌, ℕ, ◌+◌, ◌<◌, Bool, true, false, cond, List, [], ◌∷◌, length, get_or, take, map, sum, filter, refl, ap, ◌∙◌, arith}
use Rattle.std.proofs.lemmas.List.{take_more}
use Rattle.std.proofs.lemmas.Bool.Decides.{nat_tests}
use Rattle.std.proofs.lemmas.List.Sums.{sum_by_from}
use Rattle.rules.specs.Lists.{total}
use Rattle.rules.proofs.Totals.{total_push}
use Rattle.rules.specs.declared.types.Entry.{Entry}
use Rattle.rules.specs.Parts.{departed_parts}
use Rattle.ledger.specs.Lapses.{counts, counted_parts}

pub total_more : {X : Type 0} (f : X → ℕ) (xs : List X) (i : ℕ) (d : X) → i < length xs → total f (take (i + 1) xs) ≡ total f (take i xs) + f (get_or xs i d)
total_more f xs i d h = ap (total f) (take_more xs i d h) ∙ total_push f (take i xs) (get_or xs i d)

module _ (t c : ℕ) where
  abbrev parts : List Entry → List ℕ
  parts es = map (λ e. e.parts) es

  one_more : (e : Entry) (es : List Entry) → sum (parts (filter (counts t c) (e ∷ es))) ≡ counted_parts t c e + sum (parts (filter (counts t c) es))
  one_more e es = go (counts t c e) (filter (counts t c) es)
    where
      go : (b : Bool) (kept : List Entry) → sum (parts (cond b (e ∷ kept) kept)) ≡ cond b e.parts 0 + sum (parts kept)
      go true kept = omega (arith, sum_by_from (λ (n : ℕ). n) (0 + e.parts) (parts kept))
      go false kept = omega arith

  pub counted_sum : (es : List Entry) → sum (map (λ e. e.parts) (filter (counts t c) es)) ≡ departed_parts t c es
  counted_sum [] = refl
  counted_sum (e ∷ es) = one_more e es ∙ ap (λ n. counted_parts t c e + n) (counted_sum es)

-- one entry more, which counts or does not
module _ (t c : ℕ) (es : List Entry) (i : ℕ) (d : Entry) (within : i < length es) where
  pub parts_here : counts t c (get_or es i d) ≡ true → departed_parts t c (take (i + 1) es) ≡ departed_parts t c (take i es) + (get_or es i d).parts
  parts_here is = let m = total_more (counted_parts t c) es i d within in grind (arith, nat_tests)

  pub parts_elsewhere : counts t c (get_or es i d) ≡ false → departed_parts t c (take (i + 1) es) ≡ departed_parts t c (take i es)
  parts_elsewhere is = let m = total_more (counted_parts t c) es i d within in grind (arith, nat_tests)
