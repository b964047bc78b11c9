-- The worked figures, and the sample plan's calls by the model. Words: Figures.
use Rattle.std.specs.Prelude.{◌≡◌, ℕ, true, false, List, [], ◌∷◌, map, Some, None}
use Rattle.terms.specs.declared.refusals.Refusal.TheVariants.{NotTaken}
use Rattle.measure.specs.Meanings.{rounded_whole, rounded, catalogue_whole, catalogue}
use Rattle.policy.specs.Choices.{first_fit, worst_fit, best_fit}
use Rattle.rules.specs.declared.types.Reservation.{Reservation}
use Rattle.rules.specs.declared.types.State.{State}
use Rattle.rules.specs.declared.types.Call.{Call}
use Rattle.rules.specs.declared.types.Answer.{Answer}
use Rattle.rules.specs.Setup.{Setup, setup_of}
use Rattle.rules.specs.System.{System, fresh}
use Rattle.rules.specs.Parts.{bound, live_parts, departed_parts}
use Rattle.rules.specs.Server.{woken, lapse, is_behind}
use Rattle.rules.specs.Replay.{next, reply, replay}

-- A reservation of these terms with so much budget left, this deadline and this state.
abbrev pub server : ℕ → ℕ → ℕ → ℕ → State → Reservation
server budget period left deadline state = record {
  number = 1;
  budget = budget;
  period = period;
  parts = 1;
  core = 0;
  left = left;
  deadline = deadline;
  ran = 0;
  state = state;
}

-- A setup of the rounded measure and first fit with these figures B.
abbrev pub rounded_first : List ℕ → Setup
rounded_first figures = setup_of rounded_whole rounded first_fit figures 0

-- A setup of the catalogue and first fit with one core.
abbrev pub catalogue_first : Setup
catalogue_first = setup_of catalogue_whole catalogue first_fit (1000 ∷ []) 0

-- The answers to a list of calls.
abbrev pub replies : Setup → System → List Call → List Answer
replies s σ [] = []
replies s σ (c ∷ cs) = reply s σ c ∷ replies s (next s σ c) cs

-- The sample plan's calls: two cores of B = 1,000, and five rounds before the fifth event and before the eighth.
abbrev pub sample_calls : List Call
sample_calls =
    Call.Admit 5 10 ∷ Call.Admit 5 10 ∷ Call.Wake 1 ∷ Call.Wake 2 ∷
    Call.Deal ∷ Call.Settle 0 ∷ Call.Deal ∷ Call.Settle 1 ∷ Call.Deal ∷ Call.Settle 2 ∷ Call.Deal ∷ Call.Settle 3 ∷ Call.Deal ∷ Call.Settle 4 ∷
    Call.Leave 1 ∷ Call.Admit 2 4 ∷ Call.Wake 3 ∷
    Call.Deal ∷ Call.Settle 5 ∷ Call.Deal ∷ Call.Settle 6 ∷ Call.Deal ∷ Call.Settle 7 ∷ Call.Deal ∷ Call.Settle 8 ∷ Call.Deal ∷ Call.Settle 9 ∷
    Call.Admit 5 10 ∷ []

-- What they are answered.
abbrev pub sample_answers : List Answer
sample_answers =
    Answer.Placed 1 0 ∷ Answer.Placed 2 0 ∷ Answer.Awake State.Ready 10 ∷ Answer.Awake State.Ready 10 ∷
    Answer.Dealt 0 ∷ Answer.Clock 1 ∷ Answer.Dealt 1 ∷ Answer.Clock 2 ∷ Answer.Dealt 2 ∷ Answer.Clock 3 ∷ Answer.Dealt 3 ∷ Answer.Clock 4 ∷ Answer.Dealt 4 ∷ Answer.Clock 5 ∷
    Answer.Until 10 ∷ Answer.Placed 3 1 ∷ Answer.Awake State.Ready 9 ∷
    Answer.Dealt 5 ∷ Answer.Clock 6 ∷ Answer.Dealt 6 ∷ Answer.Clock 7 ∷ Answer.Dealt 7 ∷ Answer.Clock 8 ∷ Answer.Dealt 8 ∷ Answer.Clock 9 ∷ Answer.Dealt 9 ∷ Answer.Clock 10 ∷
    Answer.Placed 4 0 ∷ []

abbrev pub sample : Setup
sample = rounded_first (1000 ∷ 1000 ∷ [])

-- The figures that follow from the rules.
pub record Figures : Type 0 where
  -- Rounded parts of 1 in 3 and of 1 in 1,000,000; the catalogue at 5 in 7, and at 1 in 4, which it does not take, so that admit gives 5.
  pub rounded_third : rounded 1 3 ≡ Some 349526
  pub rounded_least : rounded 1 1000000 ≡ Some 2
  pub catalogue_row : catalogue 5 7 ≡ Some 715
  pub catalogue_other : catalogue 1 4 ≡ None
  pub catalogue_refused : reply catalogue_first (fresh catalogue_first) (Call.Admit 1 4) ≡ Answer.Refused NotTaken
  -- The bound of a core with B = 950.
  pub bound : bound (rounded_first (950 ∷ [])) 0 ≡ 996147
  -- The core that each fit names for 4 parts in rooms 3, 9 and 5.
  pub first : first_fit (3 ∷ 9 ∷ 5 ∷ []) 4 ≡ Some 1
  pub worst : worst_fit (3 ∷ 9 ∷ 5 ∷ []) 4 ≡ Some 1
  pub best : best_fit (3 ∷ 9 ∷ 5 ∷ []) 4 ≡ Some 2
  -- Wake of 5 in 10 with deadline 10: at tick 5, 2 left is kept and 3 left is filled up to 15; at tick 6, 2 left is filled up to 16.
  pub wake_kept : woken 5 (server 5 10 2 10 State.Resting) ≡ server 5 10 2 10 State.Ready
  pub wake_filled : woken 5 (server 5 10 3 10 State.Resting) ≡ server 5 10 5 15 State.Ready
  pub wake_equal : woken 6 (server 5 10 2 10 State.Resting) ≡ server 5 10 5 16 State.Ready
  -- The lapse tick with deadline 10 and period 10.
  pub lapse_third : lapse (server 3 10 1 10 State.Ready) ≡ 7
  pub lapse_half : lapse (server 5 10 2 10 State.Ready) ≡ 6
  -- Ready with 2 left of 5 in 10 and deadline 10: not behind at tick 5, and behind at tick 6.
  pub ahead : is_behind 5 (server 5 10 2 10 State.Ready) ≡ false
  pub behind : is_behind 6 (server 5 10 2 10 State.Ready) ≡ true
  -- The sample plan: its answers, then its cores' live and departed parts, and the ticks that its live reservations have run.
  pub answers : replies sample (fresh sample) sample_calls ≡ sample_answers
  pub live_0 : live_parts 0 (replay sample sample_calls).live ≡ 1048576
  pub departed_0 : departed_parts 10 0 (replay sample sample_calls).ledger ≡ 0
  pub live_1 : live_parts 1 (replay sample sample_calls).live ≡ 524288
  pub departed_1 : departed_parts 10 1 (replay sample sample_calls).ledger ≡ 0
  pub ran : map {B = ℕ × ℕ} (λ r. (r.number, r.ran)) (replay sample sample_calls).live ≡ (2, 5) ∷ (3, 3) ∷ (4, 0) ∷ []
