use Rattle.std.proofs.Common.{◌≡◌, length, take}
use Rattle.rules.specs.Parts.{rooms}
use Rattle.engine.specs.View.{bare, view}
use Rattle.engine.proofs.inner.Inner.rooms.Given as goal

abbrev pub invariant-loop-core : goal.invariant-loop-core
invariant-loop-core l =
    (length l.rooms.items ≡ l.core) × (l.rooms.items ≡ take l.core (rooms (bare l.whole.parts l.self) (view l.self)))
