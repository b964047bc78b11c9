-- What the calls and the parts of a run come to, said of an engine with the round in hand.
use Rattle.std.specs.Prelude.{◌≡◌, ℕ, Bool, List, Option}
use Rattle.rules.specs.declared.types.Call.{Call}
use Rattle.rules.specs.declared.types.Answer.{Answer}
use Rattle.rules.specs.Setup.{Setup}
use Rattle.rules.specs.System.{System}
use Rattle.rules.specs.Replay.{Told}
use Rattle.engine.specs.declared.runs.Runner.{Runner}
use Rattle.engine.specs.Shown.{Performed}
use Rattle.engine.specs.Engines.{setup, shown}
use Rattle.engine.specs.Driving.{Course}
use Rattle.engine.specs.Along.{Drives}

module _ {M P : Type 0} (whole : M → ℕ) (price : M → ℕ → ℕ → Option ℕ) (choice : P → List ℕ → ℕ → Option ℕ) where
  -- The call c was performed and answered a.
  pub record Called (c : Call) (r : Runner M P) (a : Answer) (r' : Runner M P) : Type 0 where
    pub made : setup whole price choice r'.engine ≡ setup whole price choice r.engine
    pub performed : Performed (setup whole price choice r.engine) (shown r.engine) c a (shown r'.engine)

  -- The calls of a course were performed, and an observer that was o is now o'.
  pub record Drove {O : Type 0} (shows : O → List Told → Type 0) (does : Setup → System → Course) (r : Runner M P) (o : O) (complete : Bool) (r' : Runner M P) (o' : O) : Type 0 where
    pub made : setup whole price choice r'.engine ≡ setup whole price choice r.engine
    pub drives : Drives shows (setup whole price choice r.engine) (does (setup whole price choice r.engine)) (shown r.engine) r.hand o (shown r'.engine) r'.hand complete o'
