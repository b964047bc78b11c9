-- The lines of a run by what it came to.
use Rattle.std.proofs.Common.{◌≡◌, ℕ, Bool, false, List, [], ◌++◌, map, length, IfOk, IsOkAnd, Some, None, Ok, Err, Option, Result, sym, ap, ◌∙◌}
use Rattle.std.proofs.lemmas.Bool.{both_ways}
use Rattle.rules.specs.Setup.{Setup, setup_of, making}
use Rattle.rules.specs.System.{System, fresh}
use Rattle.rules.specs.Replay.{heard, replay}
use Rattle.engine.specs.declared.runs.Step.{Step}
use Rattle.engine.specs.declared.answers.Round.{Round}
use Rattle.engine.specs.Along.{InHand}
use Rattle.engine.specs.Driving.{Course, course}
use Rattle.engine.specs.Shown.{Same}
use Rattle.plan.specs.declared.header.Header.{Header}
use Rattle.report.specs.declared.line.Line.{Line}
use Rattle.report.specs.Lines.{line_text}
use Rattle.report.specs.Reports.{figures_of, told_lines, end_lines, core_lines, ran_line, course_lines, made_lines, header_lines}
use Rattle.report.proofs.Closing.{core_same}

-- No line is there before anything is told.
pub none_told : {V E : Type 0} (r : Result V E) (items : V → List Line) → IsOkAnd r (λ v. items v ≡ []) → IfOk r (λ v. map line_text (items v) ≡ [])
none_told (Ok v) items e = ap (map line_text) e
none_told (Err e) items h = tt

-- The lines of a course by what the engine shows then.
closed_lines : (s : Setup) (c : Course) (τ : System) (complete : Bool) (n : ℕ) (text lines : List (List ℕ)) → lines ≡ text ++ (end_lines complete τ.clock ++ (core_lines τ n ++ map ran_line τ.live)) → text ≡ told_lines (heard s (fresh s) c.calls) → complete ≡ c.complete → n ≡ length s.figures → Same τ (replay s c.calls) → lines ≡ course_lines s c
closed_lines s c τ complete n text lines written told done long shown =
    written ∙ (λ i. told i ++ (end_lines (done i) (shown.clock i) ++ ((ap (core_lines τ) long ∙ core_same shown (length s.figures)) i ++ map ran_line (shown.live i))))

module _ (whole : ℕ) (price : ℕ → ℕ → Option ℕ) (choice : List ℕ → ℕ → Option ℕ) (h : Header) (steps : List Step) (figures : List ℕ) (given : figures ≡ figures_of h) where
  abbrev s : Setup
  s = setup_of whole price choice figures h.start

  abbrev c : Course
  c = course s (fresh s) steps

  -- The lines of an engine that was made.
  pub played : making figures h.start ≡ None → (τ : System) (complete : Bool) (n : ℕ) (text lines : List (List ℕ)) → lines ≡ text ++ (end_lines complete τ.clock ++ (core_lines τ n ++ map ran_line τ.live)) → text ≡ told_lines (heard s (fresh s) c.calls) → complete ≡ c.complete → n ≡ length figures → Same τ (replay s c.calls) → lines ≡ header_lines whole price choice h steps
  played e τ complete n text lines written told done long shown =
      let given_lines = ap (λ fs. made_lines (making fs h.start) (setup_of whole price choice fs h.start) steps) given in
      closed_lines s c τ complete n text lines written told done long shown ∙ sym (ap (λ o. made_lines o s steps) e) ∙ given_lines

-- A round in hand is out.
pub in_hand_out : (h : Option Round) (r : Round) (σ : System) → InHand h σ → h ≡ Some r → σ.out ≡ false → ⊥
in_hand_out None r σ hand e idle = cc
in_hand_out (Some x) r σ hand e idle = both_ways σ.out idle hand.0
