-- The text of a report's lines.
use Rattle.std.specs.Prelude.{ℕ, List, ◌++◌, codes, decimal}
use Rattle.rules.specs.declared.types.Call.{Call}
use Rattle.rules.specs.declared.types.Answer.{Answer}
use Rattle.rules.specs.Words.{call_text, answer_text}
use Rattle.fault.specs.Faults.{plan_told, fault_line}
use Rattle.report.specs.declared.line.Line.{Line}

-- The tick, the call, and after = the answer.
abbrev pub said_text : ℕ → Call → Answer → List ℕ
said_text t c a = decimal t ++ (codes " " ++ (call_text c ++ (codes " = " ++ answer_text a)))

-- The end record's line.
abbrev pub end_text : ℕ → List ℕ
end_text t = decimal t ++ codes " end"

-- A core with the parts of its live and of its departed reservations.
abbrev pub core_text : ℕ → ℕ → ℕ → List ℕ
core_text c live departed = codes "core " ++ (decimal c ++ (codes " " ++ (decimal live ++ (codes " " ++ decimal departed))))

-- A reservation with the ticks that it has run.
abbrev pub ran_text : ℕ → ℕ → List ℕ
ran_text n ticks = codes "res " ++ (decimal n ++ (codes " ran " ++ decimal ticks))

-- The text of a line.
abbrev pub line_text : Line → List ℕ
line_text (Line.Fault f) = fault_line (plan_told f)
line_text (Line.Said t c a) = said_text t c a
line_text (Line.End t) = end_text t
line_text (Line.Core c live departed) = core_text c live departed
line_text (Line.Ran n ticks) = ran_text n ticks
