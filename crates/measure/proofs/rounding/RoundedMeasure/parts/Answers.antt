use Rattle.std.proofs.Common.{◌≡◌, ℕ, ◌<◌, sym, arith}
use Rattle.std.proofs.Math.Nat.{div-eq_of_lt-le}
use Rattle.std.proofs.lemmas.Grind.{div_ceil_times}
use Rattle.std.specs.Int.{div_ceil}
use Rattle.measure.specs.Meanings.{quotient_up}
use Rattle.measure.proofs.rounding.RoundedMeasure.parts.Goals as goal

-- the library's quotient rounded up is the definition's
same_quotient : (n d : ℕ) → 0 < d → div_ceil n d ≡ quotient_up n d
same_quotient n d some =
    let bounds = div_ceil_times n d some in
    sym (div-eq_of_lt-le d (omega (arith, bounds)) (omega (arith, bounds)))

pub returns : goal.returns
returns c = grind (arith, same_quotient)
