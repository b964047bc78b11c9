-- The replay of a list of calls, and what it answers and tells.
use Rattle.std.specs.Prelude.{ℕ, Bool, true, false, cond, List, [], ◌∷◌, ◌++◌, Option}
use Rattle.rules.specs.declared.types.Call.{Call}
use Rattle.rules.specs.declared.types.Call.TheVariants.{Admit, Wake, Rest, Leave, Move, Deal, Settle}
use Rattle.rules.specs.declared.types.Answer.{Answer}
use Rattle.rules.specs.declared.types.Answer.TheVariants.{Refused}
use Rattle.rules.specs.Setup.{Setup}
use Rattle.rules.specs.System.{System, fresh}
use Rattle.rules.specs.Calls.{Outcome, refused, answered, answer}

-- The state that an outcome leaves: a refusal changes nothing.
abbrev pub state_after : System → Outcome → System
state_after σ (refused n) = σ
state_after σ (answered a σ') = σ'

-- The answer of an outcome, refusals included.
abbrev pub answer_of : Outcome → Answer
answer_of (refused n) = Refused n
answer_of (answered a σ') = a

-- An outcome that is no refusal.
abbrev pub is_accepted : Outcome → Bool
is_accepted (refused n) = false
is_accepted (answered a σ') = true

-- The state after a call.
abbrev pub next : Setup → System → Call → System
next s σ c = state_after σ (answer s σ c)

-- The answer to a call.
abbrev pub reply : Setup → System → Call → Answer
reply s σ c = answer_of (answer s σ c)

-- The call is accepted.
abbrev pub accepts : Setup → System → Call → Bool
accepts s σ c = is_accepted (answer s σ c)

-- The state after a list of calls.
abbrev pub after : Setup → System → List Call → System
after s σ [] = σ
after s σ (c ∷ cs) = after s (next s σ c) cs

-- The state after a list of calls of an engine just made.
abbrev pub replay : Setup → List Call → System
replay s cs = after s (fresh s) cs

-- What is told of a list of calls: of each call the tick, the call and its answer, and after each accepted deal the names dealt, one for
-- each core in core order.
pub data Told : Type 0 where
  said : ℕ → Call → Answer → Told
  dealt : List (Option ℕ) → Told

-- The names dealt, where the call is a deal that is accepted.
abbrev pub names_told : Setup → System → Call → List Told
names_told s σ (Admit q p) = []
names_told s σ (Wake n) = []
names_told s σ (Rest n) = []
names_told s σ (Leave n) = []
names_told s σ (Move n c) = []
names_told s σ Deal = cond (accepts s σ Deal) (dealt (next s σ Deal).names ∷ []) []
names_told s σ (Settle t) = []

-- What is told of one call.
abbrev pub told : Setup → System → Call → List Told
told s σ c = said σ.clock c (reply s σ c) ∷ names_told s σ c

-- What is told of a list of calls.
abbrev pub heard : Setup → System → List Call → List Told
heard s σ [] = []
heard s σ (c ∷ cs) = told s σ c ++ heard s (next s σ c) cs
