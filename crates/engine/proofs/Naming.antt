-- The names dealt, as they are asked for.
use Rattle.std.proofs.Common.{◌≡◌, ℕ, ◌-◌, ◌≤◌, true, eqb, List, [], ◌∷◌, ◌++◌, length, take, drop, replicate, Some, None, Option, sym, refl, ap, ◌∙◌, arith, length-drop, length-take}
use Rattle.std.specs.Option.{unwrap_or}
use Rattle.std.proofs.lemmas.List.{take-append-drop}
use Rattle.std.proofs.lemmas.Bool.{and_parts, eqb-true}
use Rattle.table.specs.declared.server.Picks.{Picks}
use Rattle.engine.specs.declared.inner.Inner.{Inner}
use Rattle.engine.specs.Limits.{all_none, none_from, fits_cores, names_out}
use Rattle.engine.specs.Names.{eight_names}
use Rattle.engine.specs.View.{view, figures_of}
use Rattle.engine.proofs.Inners.{few}

all_none_lem : (xs : List (Option ℕ)) → all_none xs ≡ true → xs ≡ replicate (length xs) None
all_none_lem [] h = refl
all_none_lem (None ∷ xs) h = ap (λ ys. None ∷ ys) (all_none_lem xs h)
all_none_lem (Some x ∷ xs) h = cc

-- Eight names, of which those past the n-th are none.
pub eight : (n : ℕ) (xs : List (Option ℕ)) → length xs ≡ 8 → n ≤ 8 → none_from n xs ≡ true → eight_names (take n xs) ≡ xs
eight n xs sized few unnamed =
    ap (λ l. take n xs ++ l) (ap (λ k. replicate k None) count ∙ sym (all_none_lem (drop n xs) unnamed)) ∙ take-append-drop n xs
  where
    count : 8 - length (take n xs) ≡ length (drop n xs)
    count = simp (length-take, length-drop) (omega arith)

-- The picks of no round.
abbrev no_picks : Picks
no_picks = record { names = replicate 8 None }

-- Whether a round is out or none, the picks are the eight names that are shown.
pub picks_eight : (i : Inner) → (unwrap_or i.round no_picks).names ≡ eight_names (view i).names
picks_eight i = go (length (figures_of i)) i.round (few i) i.named
  where
    go : (n : ℕ) (p : Option Picks) → n ≤ 8 → fits_cores n p ≡ true → (unwrap_or p no_picks).names ≡ eight_names (names_out n p)
    go n None h fits = refl
    go n (Some p) h fits =
        let both = and_parts (eqb (length p.names) 8) (none_from n p.names) fits in
        sym (eight n p.names (eqb-true _ _ both.0) h both.1)
