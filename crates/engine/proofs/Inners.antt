-- The engine's figures are the same where their plain fields are: what a ghost field says has one proof at most.
use Rattle.std.proofs.Common.{◌≡◌, ℕ, ◌≤◌, true, false, List, length, is_some, Some, None, Option, refl, arith}
use mathlib.Core.Bool.{Bool-set}
use mathlib.Core.HLevel.{is_prop→PathP}
use native.Mathlib.Bridge.{le_prop}
use Rattle.std.proofs.lemmas.Bool.Decides.{nat_tests}
use Rattle.terms.specs.declared.refusals.Refusal.{Refusal}
use Rattle.rules.specs.Setup.{making}
use Rattle.table.specs.View.{clock_of}
use Rattle.engine.specs.declared.inner.Inner.{Inner}
use Rattle.engine.specs.Limits.{fits_cores, going}
use Rattle.engine.specs.View.{figures_of}

pub inner_same : (i j : Inner) → i.figures ≡ j.figures → i.start ≡ j.start → i.table ≡ j.table → i.ledger ≡ j.ledger → i.given ≡ j.given → i.round ≡ j.round → i ≡ j
inner_same i j figures start table ledger given round = λ k. record {
  figures = figures k;
  start = start k;
  table = table k;
  ledger = ledger k;
  given = given k;
  round = round k;
  made = is_prop→PathP (λ k. is_some (making (figures k).items (start k)) ≡ false) (λ k. Bool-set _ _) i.made j.made k;
  numbered = is_prop→PathP (λ k. given k ≤ 65535) (λ k. le_prop) i.numbered j.numbered k;
  named = is_prop→PathP (λ k. fits_cores (length (figures k).items) (round k) ≡ true) (λ k. Bool-set _ _) i.named j.named k;
  lasts = is_prop→PathP (λ k. going (is_some (round k)) (clock_of (table k)) ≡ true) (λ k. Bool-set _ _) i.lasts j.lasts k;
}

-- The making of these figures was accepted.
pub was_made : (i : Inner) → making (figures_of i) i.start ≡ None
was_made i = go (making (figures_of i) i.start) i.made
  where
    go : (o : Option Refusal) → is_some o ≡ false → o ≡ None
    go None e = refl
    go (Some n) e = cc

-- There are at most eight figures.
pub made_few : (figures : List ℕ) (start : ℕ) → making figures start ≡ None → length figures ≤ 8
made_few figures start h = grind (arith, nat_tests)

pub few : (i : Inner) → length (figures_of i) ≤ 8
few i = made_few (figures_of i) i.start (was_made i)
