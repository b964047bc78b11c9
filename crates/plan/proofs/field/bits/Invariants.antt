use Rattle.std.proofs.Common.{◌≡◌}
use Rattle.plan.specs.Bits.{bits}
use Rattle.plan.proofs.field.bits.Given as goal

abbrev pub invariant-loop-k : goal.invariant-loop-k
invariant-loop-k l = l.value ≡ bits l.bytes l.field.at l.k
