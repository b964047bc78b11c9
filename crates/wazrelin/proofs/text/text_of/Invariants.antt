use Rattle.std.proofs.Common.{◌≡◌, map, take, string_bytes}
use Rattle.report.specs.Lines.{line_text}
use Rattle.wazrelin.specs.Texts.{text_of}
use Rattle.wazrelin.proofs.text.text_of.Given as goal

abbrev pub invariant-loop-line : goal.invariant-loop-line
invariant-loop-line l = string_bytes l.text ≡ text_of (map line_text (take l.line-index l.lines))
