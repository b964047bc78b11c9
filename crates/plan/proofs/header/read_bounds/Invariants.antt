use Rattle.std.proofs.Common.{◌≡◌, ◌++◌, drop, replicate, Ok}
use Rattle.plan.specs.Headers.{bounds_of}
use Rattle.plan.proofs.header.read_bounds.Given as goal

abbrev pub invariant-loop-core : goal.invariant-loop-core
invariant-loop-core l = bounds_of l.bytes l.core ≡ Ok (l.bound-items ++ drop l.fn.cores (replicate 8 0))
