-- The calls and the answers as they are printed.
use Rattle.std.specs.Prelude.{ℕ, List, ◌++◌, codes, decimal}
use Rattle.terms.specs.Numbers.{number}
use Rattle.rules.specs.declared.types.State.{State}
use Rattle.rules.specs.declared.types.Call.{Call}
use Rattle.rules.specs.declared.types.Answer.{Answer}

-- The word of each state.
abbrev pub state_word : State → List ℕ
state_word State.Ready = codes "ready"
state_word State.Spent = codes "spent"
state_word State.Resting = codes "resting"

-- A call with its A, and its B where that need not be zero.
abbrev pub call_text : Call → List ℕ
call_text (Call.Admit q p) = codes "admit " ++ (decimal q ++ (codes " " ++ decimal p))
call_text (Call.Wake n) = codes "wake " ++ decimal n
call_text (Call.Rest n) = codes "rest " ++ decimal n
call_text (Call.Leave n) = codes "leave " ++ decimal n
call_text (Call.Move n c) = codes "move " ++ (decimal n ++ (codes " " ++ decimal c))
call_text Call.Deal = codes "deal"
call_text (Call.Settle t) = codes "settle " ++ decimal t

-- An answer.
abbrev pub answer_text : Answer → List ℕ
answer_text (Answer.Placed n c) = decimal n ++ (codes " on " ++ decimal c)
answer_text (Answer.Awake s d) = state_word s ++ (codes " " ++ decimal d)
answer_text (Answer.Left q) = codes "left " ++ decimal q
answer_text (Answer.Until t) = codes "until " ++ decimal t
answer_text Answer.Free = codes "free"
answer_text (Answer.Dealt t) = codes "dealt " ++ decimal t
answer_text (Answer.Clock t) = codes "clock " ++ decimal t
answer_text (Answer.Refused n) = codes "refused " ++ decimal (number n)
