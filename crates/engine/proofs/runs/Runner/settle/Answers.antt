use Rattle.std.proofs.Common.{◌≡◌, Some, None, Err, Option, Result, sym, refl, ap, ◌∙◌, subst}
use Rattle.std.specs.Option.{ok_or}
use Rattle.terms.specs.declared.refusals.Refusal.{Refusal}
use Rattle.terms.specs.declared.refusals.Refusal.TheVariants.{WrongRound}
use Rattle.rules.specs.declared.types.Call.TheVariants.{Settle}
use Rattle.rules.specs.declared.types.Answer.TheVariants.{Clock}
use Rattle.rules.specs.Calls.{refused}
use Rattle.engine.specs.declared.answers.Round.{Round}
use Rattle.engine.specs.Engines.{shown}
use Rattle.engine.specs.Along.{InHand}
use Rattle.engine.proofs.Engines.{refuses_handed}
use Rattle.engine.proofs.Rounds.{settle_none}
use Rattle.engine.proofs.Calling.{settle_wrong, settled_held}
use Rattle.engine.proofs.runs.Runner.settle.Goals as goal

pub returns-then-tick-clock : goal.returns-then-tick-clock
returns-then-tick-clock g c =
    let e = c.args.self.now.engine in
    record {
      made = refl;
      performed = refuses_handed g.M.Measure.whole g.M.Measure.price g.P.Policy.choice e Clock (g.met.M.Measure.lawful e.measure) (g.met.P.Policy.lawful e.policy) (Settle c.args.tick) WrongRound (Err WrongRound) refl (settle_wrong (shown e) c.args.tick λ same. c.if-tick-clock.true (same ∙ sym c.clock.ensures));
    }

-- The error is the refusal that is given.
given : (h : Option Round) (n : Refusal) → ◌≡◌ {A = Result Round Refusal} (Err n) (ok_or h WrongRound) → WrongRound ≡ n
given None n e = cc
given (Some r) n e = cc

pub returns-in_err-round : goal.returns-in_err-round
returns-in_err-round g c =
    let e = c.args.self.now.engine in
    let none = c.in_err-round.ensures in
    record {
      made = refl;
      performed = refuses_handed g.M.Measure.whole g.M.Measure.price g.P.Policy.choice e Clock (g.met.M.Measure.lawful e.measure) (g.met.P.Policy.lawful e.policy) (Settle c.args.tick) c.in_err-round.field-0.0 c.from_residual.result c.from_residual.ensures.1 (settle_none (shown e) c.args.tick (subst (λ h. InHand h (shown e)) (sym c.take.ensures.value ∙ none.ok_part) c.args.self.now.held) ∙ ap refused (given _ _ none.value));
    }

pub invariant_of-self-2 : goal.invariant_of-self-2
invariant_of-self-2 g c =
    let held = subst (λ h. InHand h (shown c.args.self.now.engine)) (sym c.take.ensures.value ∙ c.in_ok-round.ensures.ok_part) c.args.self.now.held in
    record { held = subst (λ h. InHand h (shown c.settle.new.self)) (sym c.take.ensures.after) (settled_held c.in_ok-round.round _ c.settle.ensures.next held) }
