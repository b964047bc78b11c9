-- The Bs of a header, one after another.
use Rattle.std.proofs.Common.{◌≡◌, ℕ, zero, suc, ◌+◌, ◌<◌, List, set, replicate, Ok, Err, refl, ⊎_elim, add-one, arith}
use Rattle.std.proofs.lemmas.Bool.{cases_eq}
use Rattle.fault.specs.Faults.{Fault}
use Rattle.plan.specs.Headers.{bound_of, bounds_of}

module _ (bs : List ℕ) where
  pub bounds_none : bounds_of bs 0 ≡ Ok (replicate 8 0)
  unfolding bounds_of
  bounds_none = refl

  pub bounds_more : (n b : ℕ) (xs : List ℕ) → bounds_of bs n ≡ Ok xs → bound_of bs n ≡ Ok b → bounds_of bs (n + 1) ≡ Ok (set xs n b)
  unfolding bounds_of
  bounds_more n b xs p q = rw (add-one, p, q)

  stops : (n : ℕ) (e : Fault) (xs : List ℕ) → bounds_of bs n ≡ Ok xs → bound_of bs n ≡ Err e → bounds_of bs (suc n) ≡ Err e
  unfolding bounds_of
  stops n e xs p q = rw (p, q)

  -- Once a B is refused, so are all.
  pub bounds_stop : (n : ℕ) (e : Fault) (xs : List ℕ) → bounds_of bs n ≡ Ok xs → bound_of bs n ≡ Err e → (m : ℕ) → n < m → bounds_of bs m ≡ Err e
  unfolding bounds_of
  bounds_stop n e xs p q zero h = absurd (omega arith)
  bounds_stop n e xs p q (suc m) h =
      ⊎_elim
      (λ s. rw (← s) (stops n e xs p q))
      (λ d. rw (bounds_stop n e xs p q m (omega arith)))
      (cases_eq n m)
