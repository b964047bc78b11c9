-- What a run keeps as it goes along: the engine shows the replay of the calls made, the round in hand is the one that is out, and the observer
-- was told what the replay answers and tells.
use Rattle.std.specs.Prelude.{◌≡◌, Bool, true, false, List, ◌++◌, Some, None, Option}
use Rattle.std.specs.Coded.{×_prop, Coded-set, coded_bool, coded_ℕ}
use Rattle.rules.specs.declared.types.Call.{Call}
use Rattle.rules.specs.Setup.{Setup}
use Rattle.rules.specs.System.{System}
use Rattle.rules.specs.Replay.{Told, heard, replay}
use Rattle.engine.specs.declared.answers.Round.{Round}
use Rattle.engine.specs.Driving.{Course}
use Rattle.engine.specs.Shown.{Same}

-- The round in hand: none where no round is out, else one that bears the clock's tick.
abbrev pub InHand : Option Round → System → Type 0
InHand None σ = σ.out ≡ false
InHand (Some r) σ = (σ.out ≡ true) × (r.tick ≡ σ.clock)

pub InHand-prop : (h : Option Round) (σ : System) → IsProp (InHand h σ)
InHand-prop None σ = Coded-set coded_bool σ.out false
InHand-prop (Some r) σ = ×_prop (Coded-set coded_bool σ.out true) (Coded-set coded_ℕ r.tick σ.clock)

-- After the calls past and then the calls done the state τ is shown, with the round h in hand, and an observer that was o is now o'.
pub record Along {O : Type 0} (shows : O → List Told → Type 0) (s : Setup) (past done : List Call) (o : O) (τ : System) (h : Option Round) (o' : O) : Type 0 where
  pub shown : Same τ (replay s (past ++ done))
  pub hand : InHand h (replay s (past ++ done))
  pub observed : (l : List Told) → shows o l → shows o' (l ++ heard s (replay s past) done)

-- A part of a run that started where σ was shown, with the round g in hand, and ended where τ is, with h: of every list of calls whose replay
-- was shown the course goes on with these calls, and the part is complete where the course is.
abbrev pub Drives : {O : Type 0} → (O → List Told → Type 0) → Setup → (System → Course) → System → Option Round → O → System → Option Round → Bool → O → Type 0
Drives shows s does σ g o τ h complete o' =
    (past : List Call) → Same σ (replay s past) → InHand g (replay s past) → Along shows s past (does (replay s past)).calls o τ h o' × (complete ≡ (does (replay s past)).complete)
