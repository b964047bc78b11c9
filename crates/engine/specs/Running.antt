-- What a whole run comes to.
use Rattle.std.specs.Prelude.{◌≡◌, ℕ, List, ◌++◌, None, Ok, Err, Option, Result}
use Rattle.rules.specs.declared.types.Call.{Call}
use Rattle.rules.specs.Setup.{Setup, making}
use Rattle.rules.specs.System.{fresh}
use Rattle.rules.specs.Replay.{Told, heard, replay}
use Rattle.rules.specs.Share.{ShareLaw}
use Rattle.engine.specs.declared.answers.Unmade.{Unmade}
use Rattle.engine.specs.declared.runs.Step.{Step}
use Rattle.engine.specs.declared.runs.Finish.{Finish}
use Rattle.engine.specs.Shown.{Same}
use Rattle.engine.specs.Engines.{setup, shown, NotMade}
use Rattle.engine.specs.Driving.{course}
use Rattle.engine.specs.Along.{InHand}

-- The calls that the steps make of an engine just made.
abbrev pub calls_of : Setup → List Step → List Call
calls_of s steps = (course s (fresh s) steps).calls

module _ {M P O : Type 0} (whole : M → ℕ) (price : M → ℕ → ℕ → Option ℕ) (choice : P → List ℕ → ℕ → Option ℕ) (shows : O → List Told → Type 0) where
  -- A run of these steps on an engine of the setup s, before an observer that was o and is now o': the engine was made, its setup is the one
  -- given and the share law holds of it; it shows the replay of the calls made, the round in hand is the one that is out, and the observer was
  -- told what the replay answers and tells.
  pub record Ran (s : Setup) (steps : List Step) (o : O) (f : Finish M P) (o' : O) : Type 0 where
    pub accepted : making s.figures s.start ≡ None
    pub setup : setup whole price choice f.engine ≡ s
    pub law : ShareLaw s
    pub shown : Same (shown f.engine) (replay s (calls_of s steps))
    pub hand : InHand f.round (replay s (calls_of s steps))
    pub complete : f.complete ≡ (course s (fresh s) steps).complete
    pub observed : (l : List Told) → shows o l → shows o' (l ++ heard s (fresh s) (calls_of s steps))

  -- The run, or the making refused, of which the observer is not told.
  abbrev pub Running : Setup → M → P → List Step → O → Result (Finish M P) (Unmade M P) → O → Type 0
  Running s m p steps o (Ok f) o' = Ran s steps o f o'
  Running s m p steps o (Err u) o' = NotMade s m p u × (o' ≡ o)
