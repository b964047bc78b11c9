-- Leaving and moving: the entry that is due, and the checks of a move.
use Rattle.std.proofs.Common.{◌≡◌, ℕ, ◌<◌, ◌≤◌, Bool, true, false, cond, List, length, is_some, is_err, Some, None, Ok, Err, Option, Result, refl, ap, ◌∙◌}
use Rattle.std.proofs.lemmas.Bool.{lt-ltb, le-leb, ne_eqb}
use Rattle.std.specs.Option.{ok_or}
use Rattle.terms.specs.declared.refusals.Refusal.{Refusal}
use Rattle.terms.specs.declared.refusals.Refusal.TheVariants.{NoReservation, LedgerFull}
use Rattle.rules.specs.declared.types.Reservation.{Reservation}
use Rattle.rules.specs.declared.types.Entry.{Entry}
use Rattle.rules.specs.declared.types.Answer.TheVariants.{Refused, Until, Free}
use Rattle.rules.specs.Lists.{find, change}
use Rattle.rules.specs.Setup.{Setup}
use Rattle.rules.specs.System.{System, with_both}
use Rattle.rules.specs.Parts.{room}
use Rattle.rules.specs.Server.{is_behind, on_core, lapse}
use Rattle.rules.specs.Calls.{refused, place_for, ledger_after, departure, entry_due, move}
use Rattle.ledger.specs.Entries.{entries, room_for, write_answer}
use Rattle.table.specs.Calls.{transfer_live}
use Rattle.table.specs.View.{clock_of, live_of}
use Rattle.table.specs.declared.live.Table.{Table}
use Rattle.engine.specs.declared.inner.Inner.{Inner}
use Rattle.engine.specs.Shown.{Same}
use Rattle.engine.specs.Limits.{names_out}
use Rattle.engine.specs.View.{view, figures_of, Departs}
use Rattle.engine.specs.declared.answers.Departure.{Departure}
use Rattle.engine.specs.Answers.{counted_until, departure_said}

-- A ledger that refuses an entry is full.
pub write_refused : (es : List Entry) (n : Refusal) → ◌≡◌ {A = Result (Unit {0}) Refusal} (Err n) (write_answer es) → (room_for es ≡ false) × (n ≡ LedgerFull)
write_refused es n e = go (room_for es) e
  where
    go : (b : Bool) → ◌≡◌ {A = Result (Unit {0}) Refusal} (Err n) (cond b (Ok tt) (Err LedgerFull)) → (b ≡ false) × (n ≡ LedgerFull)
    go true k = cc
    go false k = (refl, cc)

-- The reservation found.
pub found_row : (o : Option Reservation) (r : Reservation) → ◌≡◌ {A = Result Reservation Refusal} (Ok r) (ok_or o NoReservation) → o ≡ Some r
found_row None r e = cc
found_row (Some x) r e = cc

module _ (σ : System) (r : Reservation) where
  -- What a refused departure says, and what one that is done says.
  pub departure_refused : (n : Refusal) → Refused n ≡ cond (place_for σ r) (departure σ r) (Refused LedgerFull) → (place_for σ r ≡ false) × (n ≡ LedgerFull)
  departure_refused n e = go (place_for σ r) (entry_due σ r) e
    where
      go : (b due : Bool) → Refused n ≡ cond b (cond due (Until (lapse r)) Free) (Refused LedgerFull) → (b ≡ false) × (n ≡ LedgerFull)
      go true true k = cc
      go true false k = cc
      go false due k = (refl, cc)

  pub departure_done : (d : Departure) → departure_said d ≡ cond (place_for σ r) (departure σ r) (Refused LedgerFull) → (place_for σ r ≡ true) × (departure_said d ≡ departure σ r)
  departure_done d e = go d.until (place_for σ r) e
    where
      go : (t : Option ℕ) (b : Bool) → counted_until t ≡ cond b (departure σ r) (Refused LedgerFull) → (b ≡ true) × (counted_until t ≡ departure σ r)
      go t true k = (refl, k)
      go (Some t) false k = cc
      go None false k = cc

-- A move whose other checks pass is refused where the ledger has no place.
pub move_full : (s : Setup) (σ : System) (n core : ℕ) (r : Reservation) → core < length s.figures → σ.out ≡ false → find n σ.live ≡ Some r → (r.core ≡ core → ⊥) → is_behind σ.clock r ≡ false → r.parts ≤ room s σ core → place_for σ r ≡ false → move s σ n core ≡ refused LedgerFull
unfolding move
move_full s σ n core r there idle found other ahead fits full =
    rw (lt-ltb _ _ there, idle, found, ne_eqb _ _ other, ahead, le-leb _ _ fits, full) refl

-- A transfer on the table is the model's, to a core that there is.
pub transfer_live_lem : (n core : ℕ) (rs : List Reservation) (r : Reservation) → core < 8 → find n rs ≡ Some r → transfer_live n core rs ≡ change n (on_core r core) rs
transfer_live_lem n core rs r h f = rw (lt-ltb _ _ h, f) refl

-- What is shown once a reservation has left its core and the table is t.
pub departs_shown : (i i' : Inner) (t : Table) (r : Reservation) (a : Result Departure Refusal) (rs : List Reservation) → Departs i r a i' → is_err a ≡ false → clock_of t ≡ clock_of i'.table → live_of t ≡ rs → Same (record { clock = clock_of t; live = live_of t; ledger = entries i'.ledger; given = i'.given; out = is_some i'.round; names = names_out (length (figures_of i')) i'.round }) (with_both (view i) rs (ledger_after (view i) r))
departs_shown i i' t r a rs went done clock live = record {
  clock = clock ∙ ap clock_of went.table;
  live = live;
  ledger = went.ledger done;
  given = went.rest.0;
  out = ap is_some went.rest.1;
  names = λ k. names_out (length (went.rest.2 k)) (went.rest.1 k);
}
