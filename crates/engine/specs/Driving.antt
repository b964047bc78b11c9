-- The calls that a list of steps makes.
use Rattle.std.specs.Prelude.{ℕ, suc, Bool, true, false, cond, ◌&&◌, List, [], ◌∷◌, ◌++◌, Some, None, Option}
use Rattle.rules.specs.declared.types.Call.{Call}
use Rattle.rules.specs.declared.types.Call.TheVariants.{Deal, Settle}
use Rattle.rules.specs.Setup.{Setup}
use Rattle.rules.specs.System.{System}
use Rattle.rules.specs.Replay.{next, accepts, after}
use Rattle.engine.specs.declared.runs.Step.{Step}

-- The calls made, and whether no deal of a round among them was refused.
pub record Course : Type 0 where
  pub calls : List Call
  pub complete : Bool

-- Nothing left to do.
abbrev pub arrived : Course
arrived = record { calls = []; complete = true }

-- A deal that is refused is the last call.
abbrev pub stopped : Course
stopped = record { calls = Deal ∷ []; complete = false }

-- One call.
abbrev pub once : Call → Course
once c = record { calls = c ∷ []; complete = true }

-- One call, complete where it is accepted.
abbrev pub trying : Call → Setup → System → Course
trying c s σ = record { calls = c ∷ []; complete = accepts s σ c }

-- These calls first.
abbrev pub before : List Call → Course → Course
before cs c = record { calls = cs ++ c.calls; complete = c.complete }

-- The second course follows where the first is complete.
abbrev pub onward : Course → Course → Course
onward c d = record { calls = c.calls ++ cond c.complete d.calls []; complete = c.complete && d.complete }

-- The state one round on: dealt, and the round settled.
abbrev pub round_on : Setup → System → System
round_on s σ = next s (next s σ Deal) (Settle σ.clock)

-- So many rounds, each a deal and the settle of the round that it hands out, up to the first deal that is refused.
unfoldable pub rounds : Setup → System → ℕ → Course
rounds s σ ℕ.zero = arrived
rounds s σ (suc k) = cond (accepts s σ Deal) (before (Deal ∷ Settle σ.clock ∷ []) (rounds s (round_on s σ) k)) stopped

-- The call of a step, where it has one.
abbrev pub own_call : Option Call → List Call
own_call None = []
own_call (Some c) = c ∷ []

-- One step: its rounds and then its call.
abbrev pub stepping : Setup → Step → System → Course
stepping s x σ = onward (rounds s σ x.rounds) (record { calls = own_call x.call; complete = true })

-- A list of steps: of each its rounds and then its call, up to the first deal of a round that is refused.
unfoldable pub course : Setup → System → List Step → Course
course s σ [] = arrived
course s σ (x ∷ xs) =
    let first = rounds s σ x.rounds in
    onward first (before (own_call x.call) (course s (after s σ (first.calls ++ own_call x.call)) xs))
