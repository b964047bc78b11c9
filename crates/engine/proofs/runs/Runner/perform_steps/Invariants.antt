use Rattle.std.proofs.Common.{true, take}
use Rattle.engine.specs.Driving.{course}
use Rattle.engine.specs.Driven.{Drove}
use Rattle.engine.proofs.runs.Runner.perform_steps.Given as goal

abbrev pub invariant-loop-step : goal.invariant-loop-step
invariant-loop-step g l = Drove g.M.Measure.whole g.M.Measure.price g.P.Policy.choice g.O.Observer.shows (λ s σ. course s σ (take l.step-index l.steps)) l.initial.self l.initial.observer true l.self l.observer
