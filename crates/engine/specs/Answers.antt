-- The results of the engine's calls as the answers of the model.
use Rattle.std.specs.Prelude.{◌≡◌, ℕ, Some, None, Ok, Err, Option, Result}
use Rattle.terms.specs.declared.refusals.Refusal.{Refusal}
use Rattle.rules.specs.declared.types.Answer.{Answer}
use Rattle.rules.specs.declared.types.Answer.TheVariants as answer
use Rattle.engine.specs.declared.answers.Placement.{Placement}
use Rattle.engine.specs.declared.answers.Awake.{Awake}
use Rattle.engine.specs.declared.answers.Departure.{Departure}
use Rattle.engine.specs.declared.answers.Round.{Round}
use Rattle.engine.specs.declared.answers.Unsettled.{Unsettled}

-- What a result answers: its value in the model's words, or the refusal.
abbrev pub answer_by : {X : Type 0} → (X → Answer) → Result X Refusal → Answer
answer_by f (Ok x) = f x
answer_by f (Err n) = answer.Refused n

abbrev pub placed : Result Placement Refusal → Answer
placed = answer_by (λ p. answer.Placed p.number p.core)

abbrev pub awake : Result Awake Refusal → Answer
awake = answer_by (λ w. answer.Awake w.state w.deadline)

abbrev pub left : Result ℕ Refusal → Answer
left = answer_by answer.Left

-- The parts stay counted until a tick, or they are free.
abbrev pub counted_until : Option ℕ → Answer
counted_until (Some t) = answer.Until t
counted_until None = answer.Free

abbrev pub departure_said : Departure → Answer
departure_said d = counted_until d.until

abbrev pub departed : Result Departure Refusal → Answer
departed = answer_by departure_said

abbrev pub dealt : Result Round Refusal → Answer
dealt = answer_by (λ r. answer.Dealt r.tick)

abbrev pub settled : Result ℕ Unsettled → Answer
settled (Ok t) = answer.Clock t
settled (Err u) = answer.Refused u.refusal

-- A settle that is refused hands the round back.
abbrev pub RoundBack : Round → Result ℕ Unsettled → Type 0
RoundBack round (Ok t) = Unit {0}
RoundBack round (Err u) = u.round ≡ round
