use Rattle.std.proofs.Common.{vec_items, sym, ◌∙◌}
use Rattle.std.proofs.lemmas.Result.{IfOk-weaker}
use Rattle.report.proofs.Told.{both, silent_more, said_more}
use Rattle.report.proofs.notes.NotesObserver.said.Goals as goal

pub returns-then-is_printed : goal.returns-then-is_printed
returns-then-is_printed c = λ l seen.
    let printed = sym c.is_printed.ensures ∙ c.if-is_printed.true in
    IfOk-weaker c.note.new.self.lines _ _
    (λ v noted. both c.args.self.now.lines _ _ (λ u more told. said_more (vec_items u) l c.args.tick c.args.call c.args.answer told (vec_items v) printed more) noted seen)
    c.note.ensures

pub returns-else-is_printed : goal.returns-else-is_printed
returns-else-is_printed c = λ l.
    let silent = sym c.is_printed.ensures ∙ c.if-is_printed.false in
    IfOk-weaker c.args.self.now.lines _ _ (λ v told. silent_more (vec_items v) l c.args.tick c.args.call c.args.answer told silent)
