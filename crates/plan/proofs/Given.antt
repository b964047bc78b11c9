-- What a test lets through.
use Rattle.std.proofs.Common.{◌≡◌, Bool, true, false, Ok, Err, Result, refl}
use Rattle.fault.specs.Faults.{Fault}
use Rattle.plan.specs.Bits.{given}

module _ {A : Type 0} (b : Bool) (w : Fault) (r : Result A Fault) where
  pub given_ok : ◌≡◌ {A = Result (Unit {0}) Fault} (Ok tt) (given b w (Ok tt)) → given b w r ≡ r
  given_ok h = elim b as (λ b. ◌≡◌ {A = Result (Unit {0}) Fault} (Ok tt) (given b w (Ok tt)) → given b w r ≡ r) [ true ↦ λ h. refl | false ↦ λ h. cc ] h

  pub given_err : {e : Fault} → ◌≡◌ {A = Result (Unit {0}) Fault} (Err e) (given b w (Ok tt)) → given b w r ≡ Err e
  given_err {e} h = elim b as (λ b. ◌≡◌ {A = Result (Unit {0}) Fault} (Err e) (given b w (Ok tt)) → given b w r ≡ Err e) [ true ↦ λ h. cc | false ↦ λ h. cc ] h
