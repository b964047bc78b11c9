use Rattle.std.proofs.Common.{true}
use Rattle.engine.specs.Driving.{rounds}
use Rattle.engine.specs.Driven.{Drove}
use Rattle.engine.proofs.runs.Runner.pass_rounds.Given as goal

abbrev pub invariant-loop : goal.invariant-loop
invariant-loop g l = Drove g.M.Measure.whole g.M.Measure.price g.P.Policy.choice g.O.Observer.shows (λ s σ. rounds s σ l.counter) l.initial.self l.initial.observer true l.self l.observer
