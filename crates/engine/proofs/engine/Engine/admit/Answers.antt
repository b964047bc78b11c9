use Rattle.std.proofs.Common.{◌≡◌, ◌+◌, Some, None, sym, refl, ap, ◌∙◌, arith}
use Rattle.std.proofs.lemmas.Grind.{common_steps}
use Rattle.std.proofs.lemmas.Bool.Decides.{nat_tests}
use Rattle.rules.specs.declared.types.Call.TheVariants.{Admit}
use Rattle.rules.specs.declared.types.Answer.TheVariants.{Placed}
use Rattle.rules.specs.Parts.{rooms}
use Rattle.rules.specs.Calls.{answered, admitted, with_newcomer, admit}
use Rattle.engine.specs.View.{view}
use Rattle.engine.specs.Engines.{setup, shown}
use Rattle.engine.proofs.Alike.{performed}
use Rattle.engine.proofs.Admitting.{offer_taken, all_rooms, admit_performs}
use Rattle.engine.proofs.Engines.{law, refuses_handed}
use Rattle.engine.proofs.engine.Engine.admit.Goals as goal

pub returns-in_err-terms-clause-next : goal.returns-in_err-terms-clause-next
unfolding admit
returns-in_err-terms-clause-next g c =
    let e = c.args.self.now in
    let limits = c.in_err-terms.ensures in
    refuses_handed g.M.Measure.whole g.M.Measure.price g.P.Policy.choice e (λ p. Placed p.number p.core) (g.met.M.Measure.lawful e.measure) (g.met.P.Policy.lawful e.policy) (Admit c.args.budget c.args.period) _ _ c.from_residual.ensures.1 (grind (arith, common_steps))

pub returns-in_err-parts-clause-next : goal.returns-in_err-parts-clause-next
unfolding admit
returns-in_err-parts-clause-next g c =
    let e = c.args.self.now in
    let terms = c.in_ok-terms.ensures in
    let none = c.in_err-parts.ensures in
    refuses_handed g.M.Measure.whole g.M.Measure.price g.P.Policy.choice e (λ p. Placed p.number p.core) (g.met.M.Measure.lawful e.measure) (g.met.P.Policy.lawful e.policy) (Admit c.args.budget c.args.period) _ _ c.from_residual-in_err-parts.ensures.1 (grind (arith, common_steps))

pub returns-in_err-check_open-clause-next : goal.returns-in_err-check_open-clause-next
unfolding admit
returns-in_err-check_open-clause-next g c =
    let e = c.args.self.now in
    let terms = c.in_ok-terms.ensures in
    let parts = c.in_ok-parts.ensures in
    let closed = c.in_err-check_open.ensures in
    refuses_handed g.M.Measure.whole g.M.Measure.price g.P.Policy.choice e (λ p. Placed p.number p.core) (g.met.M.Measure.lawful e.measure) (g.met.P.Policy.lawful e.policy) (Admit c.args.budget c.args.period) _ _ c.from_residual-in_err-check_open.ensures.1 (grind (arith, common_steps, nat_tests))

pub returns-in_err-core-clause-next : goal.returns-in_err-core-clause-next
unfolding admit
returns-in_err-core-clause-next g c =
    let e = c.args.self.now in
    let s = setup g.M.Measure.whole g.M.Measure.price g.P.Policy.choice e in
    let terms = c.in_ok-terms.ensures in
    let parts = c.in_ok-parts.ensures in
    let unclosed = c.in_ok-check_open.ensures in
    let none = c.in_err-core.ensures in
    let seen = c.deref.ensures.0 ∙ c.rooms-rooms.ensures ∙ all_rooms c.of.result.parts s e.inner c.of.ensures refl in
    let chosen : s.choice (rooms s (shown e)) c.in_ok-parts.parts ≡ None = ap (λ rs. s.choice rs c.in_ok-parts.parts) (sym seen) ∙ sym c.choose.ensures.answer ∙ none.ok_part in
    refuses_handed g.M.Measure.whole g.M.Measure.price g.P.Policy.choice e (λ p. Placed p.number p.core) (g.met.M.Measure.lawful e.measure) (g.met.P.Policy.lawful e.policy) (Admit c.args.budget c.args.period) _ _ c.from_residual-in_err-core.ensures.1 (grind (arith, common_steps, nat_tests))

pub returns-clause-next : goal.returns-clause-next
unfolding admit
returns-clause-next g c =
    let e = c.args.self.now in
    let s = setup g.M.Measure.whole g.M.Measure.price g.P.Policy.choice e in
    let σ = shown e in
    let terms = c.in_ok-terms.ensures in
    let parts = c.in_ok-parts.ensures in
    let unclosed = c.in_ok-check_open.ensures in
    let core = c.in_ok-core.ensures in
    let seen = c.deref.ensures.0 ∙ c.rooms-rooms.ensures ∙ all_rooms c.of.result.parts s e.inner c.of.ensures refl in
    let chosen : s.choice (rooms s σ) c.in_ok-parts.parts ≡ Some c.in_ok-core.core = ap (λ rs. s.choice rs c.in_ok-parts.parts) (sym seen) ∙ sym c.choose.ensures.answer ∙ core.ok_part in
    let done : admit s σ c.args.budget c.args.period ≡ answered (Placed (σ.given + 1) c.in_ok-core.core) (with_newcomer σ (admitted σ c.args.budget c.args.period c.in_ok-parts.parts c.in_ok-core.core)) = grind (arith, common_steps, nat_tests) in
    let taken = offer_taken c.args.budget c.args.period c.in_ok-terms.terms.budget c.in_ok-terms.terms.period terms in
    let right = admit_performs s σ (view c.place.new.self) c.args.budget c.args.period c.in_ok-terms.terms.budget c.in_ok-terms.terms.period c.in_ok-parts.parts c.in_ok-core.core c.place.result.number c.place.result.core done c.place.ensures.number c.place.ensures.core c.place.ensures.next taken.1 taken.2 in
    performed s σ (Admit c.args.budget c.args.period) _ (view c.place.new.self) (law g.M.Measure.whole g.M.Measure.price g.P.Policy.choice e (g.met.M.Measure.lawful e.measure) (g.met.P.Policy.lawful e.policy)) right.0 right.1
