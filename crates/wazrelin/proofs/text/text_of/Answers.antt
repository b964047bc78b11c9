use Rattle.std.proofs.Common.{map, sym, ap, ◌∙◌, take_all}
use Rattle.report.specs.Lines.{line_text}
use Rattle.wazrelin.specs.Texts.{text_of}
use Rattle.wazrelin.proofs.Plain.{plain_text}
use Rattle.wazrelin.proofs.text.text_of.Goals as goal

pub returns : goal.returns
returns c =
    c.loop-line.invariant ∙ ap (λ ls. text_of (map line_text ls)) (take_all _ _ c.loop-line-test.false) ∙ sym (plain_text c.args.lines.now).same
