-- The lines of one thing more that was told.
use Rattle.std.proofs.Common.{◌≡◌, ℕ, true, false, List, [], ◌∷◌, ◌++◌, map, IfOk, IsOkAnd, Ok, Err, Option, Result, sym, ap, ◌∙◌, append-nil}
use Rattle.std.proofs.lemmas.Bool.{cond-true, cond-false}
use Rattle.std.proofs.lemmas.Grind.{flat_map-append}
use Rattle.std.proofs.lemmas.List.{map-append}
use Rattle.rules.specs.declared.types.Call.{Call}
use Rattle.rules.specs.declared.types.Answer.{Answer}
use Rattle.rules.specs.Replay.{Told, said, dealt}
use Rattle.report.specs.declared.line.Line.{Line}
use Rattle.report.specs.Lines.{line_text, said_text}
use Rattle.report.specs.Reports.{is_printed, told_line, told_lines}

told_push : (l : List Told) (x : Told) → told_lines (l ++ x ∷ []) ≡ told_lines l ++ told_line x
told_push l x =
    flat_map-append told_line l (x ∷ []) ∙ ap (λ k. told_lines l ++ k) (append-nil (told_line x))

-- What follows where there was a value, and a value more only then.
pub both : {T E X : Type 0} (r : Result T E) (P Q : T → Type 0) → ((u : T) → P u → Q u → X) → IsOkAnd r P → IfOk r Q → X
both (Ok u) P Q f p q = f u p q
both (Err e) P Q f p q = absurd p

-- Names dealt have no line.
pub dealt_more : (ls : List Line) (l : List Told) (names : List (Option ℕ)) → map line_text ls ≡ told_lines l → map line_text ls ≡ told_lines (l ++ dealt names ∷ [])
dealt_more ls l names h = h ∙ sym (told_push l (dealt names) ∙ append-nil (told_lines l))

module _ (ls : List Line) (l : List Told) (t : ℕ) (c : Call) (a : Answer) (h : map line_text ls ≡ told_lines l) where
  -- A call that is not printed has none,
  pub silent_more : is_printed c a ≡ false → map line_text ls ≡ told_lines (l ++ said t c a ∷ [])
  silent_more e =
      h ∙ sym (told_push l (said t c a) ∙ ap (λ k. told_lines l ++ k) (cond-false (is_printed c a) (said_text t c a ∷ []) [] e) ∙ append-nil (told_lines l))

  -- and one that is has its own.
  pub said_more : (ks : List Line) → is_printed c a ≡ true → ks ≡ ls ++ Line.Said t c a ∷ [] → map line_text ks ≡ told_lines (l ++ said t c a ∷ [])
  said_more ks e k =
      ap (map line_text) k ∙ map-append line_text ls (Line.Said t c a ∷ []) ∙ ap (λ x. x ++ said_text t c a ∷ []) h ∙ sym (told_push l (said t c a) ∙ ap (λ x. told_lines l ++ x) (cond-true (is_printed c a) (said_text t c a ∷ []) [] e))
