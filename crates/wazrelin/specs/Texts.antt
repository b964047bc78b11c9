-- A report as text, and as bytes.
use Rattle.std.specs.Prelude.{ℕ, List, [], ◌∷◌, ◌++◌}
use Rattle.std.specs.List.{flat_map}
use Rattle.std.proofs.Math.Utf8.{encodes}
use Rattle.report.specs.Reports.{report_of}

-- The text of lines: each line, and a line feed after it.
abbrev pub text_of : List (List ℕ) → List ℕ
text_of ls = flat_map (λ l. l ++ 10 ∷ []) ls

-- The text of a plan's report in UTF-8.
abbrev pub report_bytes : List ℕ → List ℕ
report_bytes plan = encodes (text_of (report_of plan))
