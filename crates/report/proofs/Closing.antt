-- The closing lines, written after others.
use Rattle.std.proofs.Common.{◌≡◌, ℕ, Bool, true, false, List, [], ◌∷◌, ◌++◌, map, ap, ◌∙◌, append_assoc, append-nil}
use Rattle.std.proofs.lemmas.List.{map-append}
use Rattle.std.specs.List.{range_with_len}
use mathlib.Core.List.{map-map}
use Rattle.rules.specs.declared.types.Reservation.{Reservation}
use Rattle.rules.specs.System.{System}
use Rattle.rules.specs.Parts.{live_parts, departed_parts}
use Rattle.ledger.proofs.Same.{same_departed}
use Rattle.engine.specs.Shown.{Same}
use Rattle.report.specs.declared.line.Line.{Line}
use Rattle.report.specs.Lines.{line_text, core_text}
use Rattle.report.specs.Reports.{end_lines, core_lines, ran_line}

-- The line of core c of a state, and that of a live reservation.
abbrev pub core_at : System → ℕ → Line
core_at σ c = Line.Core c (live_parts c σ.live) (departed_parts σ.clock c σ.ledger)

abbrev pub ran_at : Reservation → Line
ran_at r = Line.Ran r.number r.ran

-- The end, where the run came to it.
pub end_more : (b : Bool) (t : ℕ) (ls ks : List Line) → b ≡ true → ks ≡ ls ++ Line.End t ∷ [] → map line_text ks ≡ map line_text ls ++ end_lines b t
end_more b t ls ks e k =
    let m = map-append line_text ls (Line.End t ∷ []) in let a = ap (λ x. end_lines x t) e in cc

pub end_none : (b : Bool) (t : ℕ) (ls ks : List Line) → b ≡ false → ks ≡ ls → map line_text ks ≡ map line_text ls ++ end_lines b t
end_none b t ls ks e k =
    let m = append-nil (map line_text ls) in let a = ap (λ x. end_lines x t) e in cc

-- The end, the cores and the live reservations after the first lines.
pub closing : (σ : System) (n : ℕ) (first ended : List Line) (end : List (List ℕ)) {with_cores all : List Line} → map line_text ended ≡ map line_text first ++ end → with_cores ≡ ended ++ map (core_at σ) (range_with_len 0 n) → all ≡ with_cores ++ map ran_at σ.live → map line_text all ≡ map line_text first ++ (end ++ (core_lines σ n ++ map ran_line σ.live))
closing σ n first ended end {with_cores} {all} e c r =
    let cores = map-append line_text ended (map (core_at σ) (range_with_len 0 n)) in
    let live = map-append line_text with_cores (map ran_at σ.live) in
    let m = map-map line_text (core_at σ) (range_with_len 0 n) in
    let k = map-map line_text ran_at σ.live in
    let x = append_assoc (map line_text first ++ end) (core_lines σ n) (map ran_line σ.live) in
    let y = append_assoc (map line_text first) end (core_lines σ n ++ map ran_line σ.live) in
    cc

-- States that are the same have the same lines of cores.
pub core_same : {σ τ : System} → Same σ τ → (n : ℕ) → core_lines σ n ≡ core_lines τ n
core_same {σ} {τ} h n =
    let departed = λ (c : ℕ). same_departed σ.ledger τ.ledger h.ledger σ.clock c ∙ ap (λ t. departed_parts t c τ.ledger) h.clock in
    λ i. map (λ c. core_text c (live_parts c (h.live i)) (departed c i)) (range_with_len 0 n)
