use Rattle.plan.specs.Plans.{contents_of, plan_of}
use Rattle.report.proofs.Made.{plan_made}
use Rattle.report.proofs.lines.report.Goals as goal

pub returns-in-Ok-clause-made : goal.returns-in-Ok-clause-made
returns-in-Ok-clause-made c =
    plan_made c.play_plan.result (contents_of c.in-Ok.plan) (plan_of c.args.bytes.now) c.in-Ok.ensures.limits c.in-Ok.ensures.answer
