-- The engine of a header within its limits is made.
use Rattle.std.proofs.Common.{◌≡◌, ℕ, ◌≤◌, true, List, length, min, take, Ok, Err, None, Option, Result, IsOk, OnOk, sym, refl, ap, ◌∙◌, subst, nat_le, ◌&&◌, arith}
use Rattle.std.specs.List.{All}
use Rattle.std.proofs.lemmas.Bool.Decides.{nat_tests}
use Rattle.std.proofs.lemmas.List.{length-take}
use Rattle.std.proofs.lemmas.List.Sums.{list_all-from_AllPass}
use Rattle.rules.specs.Setup.{Setup, figures_fit, making}
use Rattle.rules.specs.Replay.{Told}
use Rattle.engine.specs.declared.answers.Unmade.{Unmade}
use Rattle.engine.specs.declared.runs.Step.{Step}
use Rattle.engine.specs.declared.runs.Finish.{Finish}
use Rattle.engine.specs.Running.{Ran, Running}
use Rattle.plan.specs.declared.header.Header.{Header}
use Rattle.fault.specs.Faults.{Fault}
use Rattle.plan.specs.Headers.{IsBound, IsWithinLimits}
use Rattle.plan.specs.Plans.{Contents}
use Rattle.report.specs.Reports.{figures_of, IsMade}

fit : (bs : List ℕ) → All IsBound bs → figures_fit bs ≡ true
fit bs h =
    list_all-from_AllPass (λ b. nat_le 1 b && nat_le b 1000) bs (λ k d lt. let p = h k d lt in grind (arith, nat_tests))

made : (fs : List ℕ) (start : ℕ) → 1 ≤ length fs → length fs ≤ 8 → All IsBound fs → start ≤ 4000000000 → making fs start ≡ None
made fs start some few bounds early = let f = fit fs bounds in grind (arith, nat_tests)

pub limits_made : (h : Header) → IsWithinLimits h → making (figures_of h) h.start ≡ None
limits_made h w =
    let n : min h.cores 8 ≡ h.cores = omega (arith, w.few) in
    let few = w.few in
    let some = w.some in
    let places = w.places in
    let count = length-take h.cores h.bounds in
    ap (λ k. making (take k h.bounds) h.start) n ∙ made (take h.cores h.bounds) h.start (omega arith) (omega arith) w.bounds w.start

module _ {M P O : Type 0} (whole : M → ℕ) (price : M → ℕ → ℕ → Option ℕ) (choice : P → List ℕ → ℕ → Option ℕ) (shows : O → List Told → Type 0) (s : Setup) (m : M) (p : P) (steps : List Step) (o o' : O) where
  -- A run whose making is not refused gives an engine,
  pub run_made : (r : Result (Finish M P) (Unmade M P)) → Running whole price choice shows s m p steps o r o' → making s.figures s.start ≡ None → IsOk r
  run_made (Ok f) ran made = refl
  run_made (Err u) ran made = let e = sym ran.0.refused ∙ made in cc

  -- and what it gives was run.
  pub run_ran : (r : Result (Finish M P) (Unmade M P)) (f : Finish M P) → Running whole price choice shows s m p steps o r o' → r ≡ Ok f → Ran whole price choice shows s steps o f o'
  run_ran r f ran e = subst (λ x. Running whole price choice shows s m p steps o x o') e ran

-- So is that of a plan that is read.
pub plan_made : {T E : Type 0} (r : Result T E) (c : Contents) (w : Result Contents Fault) → IsWithinLimits c.header → Ok c ≡ w → OnOk r (IsMade w)
plan_made (Ok x) c w limits e = subst IsMade e (limits_made c.header limits)
plan_made (Err x) c w limits e = tt
