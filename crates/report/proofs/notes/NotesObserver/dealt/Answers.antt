use Rattle.std.proofs.Common.{vec_items}
use Rattle.std.proofs.lemmas.Result.{IfOk-weaker}
use Rattle.report.proofs.Told.{dealt_more}
use Rattle.report.proofs.notes.NotesObserver.dealt.Goals as goal

pub returns : goal.returns
returns c = λ l. IfOk-weaker c.args.self.now.lines _ _ (λ v. dealt_more (vec_items v) l c.args._names.now)
