use Rattle.std.proofs.Common.{◌≡◌, ◌*◌, ◌≤◌, take}
use Rattle.rules.specs.Parts.{departed_parts}
use Rattle.ledger.proofs.departed.Ledger.departed.Given as goal

-- the parts of the entries gone over
abbrev pub invariant-loop-entry : goal.invariant-loop-entry
invariant-loop-entry l = (l.parts ≡ departed_parts l.clock l.core (take l.entry-index l.held)) × (l.parts ≤ l.entry-index * 4294967296)
