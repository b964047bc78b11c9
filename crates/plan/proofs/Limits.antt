-- Every header that is read keeps to its limits.
use Rattle.std.proofs.Common.{◌≡◌, ℕ, zero, suc, ◌<◌, ◌≤◌, List, set, length, take, All, Ok, Err, Result, IfOk, sym, refl, subst, arith, length-set}
use Rattle.std.proofs.Math.Seq.{take-suc-set}
use Rattle.std.proofs.lemmas.Bool.Decides.{nat_tests}
use Rattle.std.proofs.lemmas.List.Elements.{All-push}
use Rattle.std.proofs.lemmas.Result.{IfOk-at_ok}
use Rattle.fault.specs.Faults.{Fault}
use Rattle.plan.specs.declared.header.Header.{Header}
use Rattle.plan.specs.Bits.{then}
use Rattle.plan.specs.Headers.{bound_of, bounds_of, header_of, IsBound, IsWithinLimits}

-- Eight places, of which the first n have bounds.
abbrev FrontFits : ℕ → List ℕ → Type 0
FrontFits n xs = (length xs ≡ 8) × All IsBound (take n xs)

front_more : (n : ℕ) (r : Result (List ℕ) Fault) (s : Result ℕ Fault) → n < 8 → IfOk r (FrontFits n) → IfOk s IsBound → IfOk (then r (λ xs. then s (λ b. Ok (set xs n b)))) (FrontFits (suc n))
front_more n (Ok xs) (Ok b) h front fits = (
  simp length-set front.0,
  subst (All IsBound) (sym (take-suc-set xs n b (omega arith))) (All-push IsBound (take n xs) b front.1 fits),
)
front_more n (Ok xs) (Err e) h front fits = tt
front_more n (Err e) s h front fits = tt

bound_fits : (bs : List ℕ) (k : ℕ) → IfOk (bound_of bs k) IsBound
bound_fits bs k = grind (arith, nat_tests)

bounds_fit : (bs : List ℕ) (n : ℕ) → n ≤ 8 → IfOk (bounds_of bs n) (FrontFits n)
unfolding bounds_of
bounds_fit bs zero h = (refl, λ k d l. absurd (omega arith))
bounds_fit bs (suc n) h =
    front_more n (bounds_of bs n) (bound_of bs n) (omega arith) (bounds_fit bs n (omega arith)) (bound_fits bs n)

module _ (bs : List ℕ) (h : Header) (read : header_of bs ≡ Ok h) where
  some : 1 ≤ h.cores
  some = grind (arith, nat_tests)

  few : h.cores ≤ 8
  few = grind (arith, nat_tests)

  start : h.start ≤ 4000000000
  start = grind (arith, nat_tests)

  bounds_read : bounds_of bs h.cores ≡ Ok h.bounds
  bounds_read = grind (arith, nat_tests)

  pub header_limits : IsWithinLimits h
  header_limits =
      let front = IfOk-at_ok (FrontFits h.cores) bounds_read (bounds_fit bs h.cores few) in
      record { some = some; few = few; start = start; places = front.0; bounds = front.1 }
