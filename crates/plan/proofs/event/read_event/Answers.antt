use Rattle.std.proofs.Common.{Ok, sym, ap, ◌∙◌}
use Rattle.std.proofs.lemmas.Result.{err_from_is_err_and}
use Rattle.plan.specs.Records.{row_with}
use Rattle.plan.proofs.Complete.{bad_kind, bad_a, bad_b, good}
use Rattle.plan.proofs.event.read_event.Goals as goal

pub returns-in_err-kind-clause-answer : goal.returns-in_err-kind-clause-answer
returns-in_err-kind-clause-answer c =
    let p = err_from_is_err_and c.from_residual.result c.from_residual.ensures.1 in
    rw (p.1, p.2) (sym (bad_kind c.in-Some-Some.ensures _ c.in_err-kind.ensures))

pub returns-in_err-check_figure-clause-answer : goal.returns-in_err-check_figure-clause-answer
returns-in_err-check_figure-clause-answer c =
    let p = err_from_is_err_and c.from_residual-in_err-check_figure.result c.from_residual-in_err-check_figure.ensures.1 in
    rw (p.1, p.2) (sym (bad_a c.in-Some-Some.ensures _ c.in_ok-kind.ensures c.lacks_a.ensures c.in_err-check_figure.ensures))

pub returns-in_err-check_figure-2-clause-answer : goal.returns-in_err-check_figure-2-clause-answer
returns-in_err-check_figure-2-clause-answer c =
    let p = err_from_is_err_and c.from_residual-in_err-check_figure-2.result c.from_residual-in_err-check_figure-2.ensures.1 in
    rw (p.1, p.2) (sym (bad_b c.in-Some-Some.ensures _ c.in_ok-kind.ensures c.lacks_a.ensures c.in_ok-check_figure.ensures c.lacks_b.ensures c.in_err-check_figure-2.ensures))

pub returns-clause-answer : goal.returns-clause-answer
returns-clause-answer c =
    let right = good c.in-Some-Some.ensures _ c.in_ok-kind.ensures c.lacks_a.ensures c.in_ok-check_figure.ensures c.lacks_b.ensures c.in_ok-check_figure-2.ensures in
    let eight = ap (λ bs. row_with c.in_ok-kind.kind c.in-Some-Some.figures bs c.args.input.start.byte) c.in-Some-Some.ensures'.cases.same in
    ap Ok (c.event_of.ensures ∙ eight) ∙ sym right
