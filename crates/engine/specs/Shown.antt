-- What an engine shows of the model: the same state, the ledger as a bag.
use Rattle.std.specs.Prelude.{◌≡◌, List, [], ◌∷◌, ◌++◌}
use Rattle.rules.specs.declared.types.Call.{Call}
use Rattle.rules.specs.declared.types.Answer.{Answer}
use Rattle.rules.specs.Setup.{Setup}
use Rattle.rules.specs.System.{System}
use Rattle.rules.specs.Replay.{next, reply, replay}
use Rattle.rules.specs.Share.{ShareLaw}
use Rattle.ledger.specs.Entries.{SameEntries}

-- Two states are the same but for the order in which their ledgers list the entries.
pub record Same (σ τ : System) : Type 0 where
  pub clock : σ.clock ≡ τ.clock
  pub live : σ.live ≡ τ.live
  pub ledger : SameEntries σ.ledger τ.ledger
  pub given : σ.given ≡ τ.given
  pub out : σ.out ≡ τ.out
  pub names : σ.names ≡ τ.names

-- An engine of this setup that showed σ has performed the call c: it answered a and shows τ. The answer and the state are the model's; and of
-- every list of calls whose replay was shown, the replay of the list with this call at its end is shown now, the answer is the replay's,
-- and the share law holds.
pub record Performed (s : Setup) (σ : System) (c : Call) (a : Answer) (τ : System) : Type 0 where
  pub answer : a ≡ reply s σ c
  pub next : Same τ (next s σ c)
  pub replayed : (past : List Call) → Same σ (replay s past) → (a ≡ reply s (replay s past) c) × Same τ (replay s (past ++ c ∷ []))
  pub law : ShareLaw s
