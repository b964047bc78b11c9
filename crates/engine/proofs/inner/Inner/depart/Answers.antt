use Rattle.std.proofs.Common.{refl}
use Rattle.engine.proofs.Departing.{write_refused}
use Rattle.engine.proofs.Inners.{inner_same}
use Rattle.engine.proofs.inner.Inner.depart.Goals as goal

pub returns-in_err-write-clause-kept : goal.returns-in_err-write-clause-kept
returns-in_err-write-clause-kept c refused =
    inner_same _ _ refl refl refl (c.write.ensures.refused (write_refused _ _ c.in_err-write.ensures.answer).0) refl refl
