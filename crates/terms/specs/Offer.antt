-- What the making of terms answers. Words: offer, shown.
use Rattle.std.specs.Prelude.{ℕ, cond, Ok, Err, Result}
use Rattle.terms.specs.Limits.{in_limits}
use Rattle.terms.specs.declared.refusals.Refusal.{Refusal}
use Rattle.terms.specs.declared.refusals.Refusal.TheVariants.{Limits}
use Rattle.terms.specs.declared.ticks.Terms.{Terms}

-- The budget and the period as given within the limits, and refusal 4 outside them.
abbrev pub offer : ℕ → ℕ → Result (ℕ × ℕ) Refusal
offer budget period = cond (in_limits budget period) (Ok (budget, period)) (Err Limits)

-- An answer with its terms as their two figures.
abbrev pub shown : Result Terms Refusal → Result (ℕ × ℕ) Refusal
shown (Ok terms) = Ok (terms.budget, terms.period)
shown (Err refusal) = Err refusal
