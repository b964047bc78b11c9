-- What the engine's figures show of the model.
use Rattle.std.specs.Prelude.{◌≡◌, ℕ, false, cond, List, [], length, is_some, is_err, Some, None, Option, Result, nat_lt}
use Rattle.terms.specs.declared.refusals.Refusal.{Refusal}
use Rattle.terms.specs.declared.refusals.Refusal.TheVariants.{RoundOut, TooMany, NumbersGone, LedgerFull}
use Rattle.rules.specs.declared.types.Answer.{Answer}
use Rattle.rules.specs.declared.types.Answer.TheVariants.{Refused}
use Rattle.rules.specs.declared.types.Reservation.{Reservation}
use Rattle.rules.specs.Setup.{Setup}
use Rattle.rules.specs.System.{System, live_limit, last_number}
use Rattle.rules.specs.Calls.{Outcome, place_for, ledger_after, departure}
use Rattle.rules.specs.Replay.{state_after, answer_of}
use Rattle.ledger.specs.Entries.{entries, SameEntries}
use Rattle.table.specs.View.{clock_of, live_of}
use Rattle.engine.specs.declared.inner.Inner.{Inner}
use Rattle.engine.specs.declared.answers.Departure.{Departure}
use Rattle.engine.specs.Answers.{departed}
use Rattle.engine.specs.Limits.{names_out}
use Rattle.engine.specs.Shown.{Same}

-- The figure B of each core.
abbrev pub figures_of : Inner → List ℕ
figures_of i = i.figures.items

-- The state that is shown.
abbrev pub view : Inner → System
view i = record {
  clock = clock_of i.table;
  live = live_of i.table;
  ledger = entries i.ledger;
  given = i.given;
  out = is_some i.round;
  names = names_out (length i.figures.items) i.round;
}

-- The figures after an outcome of the model: they answered as it does, show its state, and their cores and start are as before.
pub record Follows (i : Inner) (o : Outcome) (a : Answer) (i' : Inner) : Type 0 where
  pub answer : a ≡ answer_of o
  pub next : Same (view i') (state_after (view i) o)
  pub figures : figures_of i' ≡ figures_of i
  pub start : i'.start ≡ i.start

-- The setup of these figures with a measure of this whole that takes nothing and a policy that names none: what move and deal ask of a setup.
abbrev pub bare : ℕ → Inner → Setup
bare whole i =
    record { whole = whole; price = λ _ _. None; choice = λ _ _. None; figures = figures_of i; start = i.start }

-- What refuses every newcomer: a round that is out, a full table, no number left.
abbrev pub closed_by : System → Option Refusal
closed_by σ =
    cond σ.out (Some RoundOut)
    (cond (nat_lt (length σ.live) live_limit) (cond (nat_lt σ.given last_number) None (Some NumbersGone)) (Some TooMany))

-- A reservation leaves its core: where its entry is due and there is no place for it that is refused; else the ledger has the entry that is
-- due, and all else is as before.
pub record Departs (i : Inner) (r : Reservation) (a : Result Departure Refusal) (i' : Inner) : Type 0 where
  pub answer : departed a ≡ cond (place_for (view i) r) (departure (view i) r) (Refused LedgerFull)
  pub ledger : is_err a ≡ false → SameEntries (entries i'.ledger) (ledger_after (view i) r)
  pub table : i'.table ≡ i.table
  pub rest : (i'.given ≡ i.given) × (i'.round ≡ i.round) × (figures_of i' ≡ figures_of i) × (i'.start ≡ i.start)

-- What an engine just made shows.
abbrev pub opened : ℕ → System
opened start = record { clock = start; live = []; ledger = []; given = 0; out = false; names = [] }
