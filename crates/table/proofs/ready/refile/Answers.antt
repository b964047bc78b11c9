use Rattle.std.proofs.Common.{ap, ◌∙◌}
use Rattle.table.specs.Keys.{filed_on, less_on}
use Rattle.table.proofs.Ties.{less_on_filed_on}
use Rattle.table.proofs.ready.refile.Goals as goal

pub returns : goal.returns
returns c = λ k h ks is.
    c.file.ensures k h
    ∙ ap (filed_on k c.args.row.now) (c.unfile.ensures k h ∙ ap (less_on k c.args.old.now) is ∙ less_on_filed_on k c.args.old.now ks)
