use Rattle.std.proofs.Common.{◌≡◌, [], map, length, ap, ◌∙◌}
use Rattle.std.proofs.lemmas.Result.{IfOk-at_ok, IfOk-weaker}
use Rattle.rules.specs.Replay.{replay}
use Rattle.rules.specs.System.{fresh}
use Rattle.rules.specs.Setup.{setup_of, making}
use Rattle.engine.specs.Driving.{course}
use Rattle.engine.specs.Engines.{shown}
use Rattle.engine.specs.View.{figures_of}
use Rattle.plan.specs.Records.{row_of}
use Rattle.report.specs.Lines.{line_text}
use Rattle.report.specs.Reports.{step_of, header_lines}
use Rattle.report.proofs.Idle.{steps_idle}
use Rattle.report.proofs.Made.{limits_made, run_made, run_ran}
use Rattle.report.proofs.Playing.{none_told, played, in_hand_out}
use Rattle.report.proofs.lines.play.Goals as goal

pub unwrap-engine-requires : goal.unwrap-engine-requires
unwrap-engine-requires g c =
    let h = c.args.plan.now.header in
    let figures = c.deref-2.ensures.0 ∙ c.figures_of-figures.ensures in
    run_made _ _ _ _ _ _ _ _ _ _ c.run.result c.run.ensures (ap (λ fs. making fs h.start) figures ∙ limits_made h c.requires)

pub unreachable-requires : goal.unreachable-requires
unreachable-requires g c =
    let ran = run_ran _ _ _ _ _ _ _ _ _ _ c.run.result c.unwrap-engine.result c.run.ensures c.unwrap-engine.ensures in
    let s = setup_of (g.M.Measure.whole c.args.measure) (g.M.Measure.price c.args.measure) (g.P.Policy.choice c.args.policy) c.deref-2.result.now c.args.plan.now.header.start in
    let steps : c.deref-3.result.now ≡ map step_of (map row_of c.args.plan.now.events.items) =
    c.deref-3.ensures.value ∙ c.in_ok-steps.ensures ∙ ap (λ es. map step_of (map row_of es)) c.deref.ensures.value in
    let idle = ap (λ xs. (replay s (course s (fresh s) xs).calls).out) steps ∙ steps_idle s (map row_of c.args.plan.now.events.items) in
    in_hand_out c.unwrap-engine.result.round c.in_default.field-0 (replay s (course s (fresh s) c.deref-3.result.now).calls) ran.hand c.in_default.is idle

pub returns : goal.returns
returns g c =
    let ran = run_ran _ _ _ _ _ _ _ _ _ _ c.run.result c.unwrap-engine.result c.run.ensures c.unwrap-engine.ensures in
    let whole = g.M.Measure.whole c.args.measure in
    let price = g.M.Measure.price c.args.measure in
    let choice = g.P.Policy.choice c.args.policy in
    let h = c.args.plan.now.header in
    let engine = c.unwrap-engine.result.engine in
    let figures = c.deref-2.ensures.0 ∙ c.figures_of-figures.ensures in
    let steps : c.deref-3.result.now ≡ map step_of (map row_of c.args.plan.now.events.items) =
    c.deref-3.ensures.value ∙ c.in_ok-steps.ensures ∙ ap (λ es. map step_of (map row_of es)) c.deref.ensures.value in
    let text = map line_text c.in_ok-notes.field-0.items in
    let told = IfOk-at_ok _ c.in_ok-notes.was (ran.observed [] (none_told c.new-notes.result.lines _ c.new-notes.ensures)) in
    IfOk-weaker c.close.result _ _
    (λ v closed. played whole price choice h c.deref-3.result.now c.deref-2.result.now figures ran.accepted (shown engine) c.unwrap-engine.result.complete (length (figures_of engine.inner)) text (map line_text v.items) closed told ran.complete (ap (λ s. length s.figures) ran.setup) ran.shown ∙ ap (header_lines whole price choice h) steps)
    c.close.ensures
