-- On every core, up to every tick, what the reservations may claim is covered by what their shares give them, and each core
-- counts at most its bound; every call keeps this.
use Rattle.std.proofs.Common.{◌≡◌, ℕ, ◌+◌, ◌<◌, ◌≤◌, false, cond, eqb, List, ◌∷◌, map, length, Some, ap, subst, ⊎_elim, arith}
use Rattle.std.specs.List.{All}
use Rattle.std.proofs.lemmas.List.Elements.{All-cons}
use Rattle.std.proofs.lemmas.Bool.Decides.{nat_tests}
use Rattle.std.proofs.lemmas.Bool.{ltb-false, cases_eq, cond_both}
use Rattle.rules.specs.declared.types.Reservation.{Reservation}
use Rattle.rules.specs.declared.types.Entry.{Entry}
use Rattle.rules.specs.Lists.{total, find, change, without}
use Rattle.rules.specs.Setup.{Setup}
use Rattle.rules.specs.System.{System, with_live, with_both}
use Rattle.rules.specs.Parts.{departed_parts, counted, bound, room}
use Rattle.rules.specs.Server.{is_behind, on_core, lapse, entry_of}
use Rattle.rules.specs.Calls.{admitted, with_newcomer, entry_due, ledger_after}
use Rattle.rules.specs.Share.{Lawful}
use Rattle.rules.proofs.Basics.{Fair, limited}
use Rattle.rules.proofs.Totals.{total_push, total_change, total_without}
use Rattle.rules.proofs.Credits.{Measured, Stocked, owed, held, credit, due, lapsed, leaving, moving}

-- What the reservations on core c with deadlines up to d may claim.
abbrev pub owed_by : ℕ → ℕ → ℕ → List Reservation → ℕ
owed_by w c d rs = total (λ r. due c d r (owed w r)) rs

-- What their shares give them from tick t on.
abbrev pub held_by : ℕ → ℕ → ℕ → ℕ → List Reservation → ℕ
held_by w t c d rs = total (λ r. due c d r (held w t r)) rs

-- The credit of departed ones.
abbrev pub credit_by : ℕ → ℕ → ℕ → ℕ → List Reservation → ℕ
credit_by w t c d rs = total (λ r. due c d r (credit w t r)) rs

-- What core c counts for a reservation.
abbrev pub counted_for : ℕ → Reservation → ℕ
counted_for c r = cond (eqb r.core c) r.parts 0

-- The ledger's entries are those of reservations as they were when they left; with their credit the claims are covered on every
-- core up to every tick d, and every core counts at most its bound.
pub record Demand (s : Setup) (σ : System) : Type 0 where
  pub gone : List Reservation
  pub ledger : σ.ledger ≡ map entry_of gone
  pub measured : All (Measured s.whole) gone
  pub covered : (c d : ℕ) → c < length s.figures → owed_by s.whole c d σ.live ≤ held_by s.whole σ.clock c d σ.live + credit_by s.whole σ.clock c d gone
  pub fits : (c : ℕ) → counted σ c ≤ bound s c

pub measured_by : (s : Setup) → Lawful s → (t given : ℕ) (r : Reservation) → Fair s t given r → Measured s.whole r
measured_by s law t given r f =
    let l = limited r.budget r.period f.limits in
    record {
      budget_low = l.budget_low;
      period_low = omega arith;
      period_high = l.period_high;
      covers = law.measure.covers r.budget r.period r.parts f.limits f.priced;
    }

pub stocked_by : (s : Setup) (t given : ℕ) (r : Reservation) → Fair s t given r → Stocked r
stocked_by s t given r f = record { ready = f.ready; spent = f.spent }

module _ (s : Setup) (σ : System) (k : Demand s σ) where
  -- Where a core has room for a reservation it may come to count for it.
  newcomer : (r : Reservation) → r.parts ≤ room s σ r.core → (c : ℕ) → counted σ c + counted_for c r ≤ bound s c
  newcomer r place c =
      let fit = k.fits c in
      ⊎_elim
      (λ (e : r.core ≡ c). let here : r.parts ≤ room s σ c = subst (λ x. r.parts ≤ room s σ x) e place in let most : counted_for c r ≤ r.parts = grind (arith, nat_tests) in omega arith)
      (λ (ne : r.core ≡ c → ⊥). let none : counted_for c r ≡ 0 = grind (arith, nat_tests) in omega arith)
      (cases_eq r.core c)

  -- A reservation changed on its core.
  pub changed : (n : ℕ) (r x : Reservation) → find n σ.live ≡ Some r → ((c d : ℕ) → due c d x (owed s.whole x) + due c d r (held s.whole σ.clock r) ≤ due c d r (owed s.whole r) + due c d x (held s.whole σ.clock x)) → ((c : ℕ) → counted_for c x ≡ counted_for c r) → Demand s (with_live σ (change n x σ.live))
  changed n r x live claims counts = record {
    gone = k.gone;
    ledger = k.ledger;
    measured = k.measured;
    covered = λ c d h. omega (
      arith,
      k.covered c d h,
      claims c d,
      total_change (λ r. due c d r (owed s.whole r)) n r x σ.live live,
      total_change (λ r. due c d r (held s.whole σ.clock r)) n r x σ.live live,
    );
    fits = λ c. omega (arith, k.fits c, counts c, total_change (counted_for c) n r x σ.live live);
  }

  -- A reservation leaves its core, and the ledger becomes es.
  record Departure (r : Reservation) (es : List Entry) : Type 0 where
    gone : List Reservation
    ledger : es ≡ map entry_of gone
    measured : All (Measured s.whole) gone
    credits : (c d : ℕ) → credit_by s.whole σ.clock c d gone ≡ credit_by s.whole σ.clock c d k.gone + due c d r (credit s.whole σ.clock r)
    counts : (c : ℕ) → departed_parts σ.clock c es ≤ departed_parts σ.clock c σ.ledger + counted_for c r

  departing : (r : Reservation) → Measured s.whole r → Departure r (ledger_after σ r)
  departing r m =
      cond_both (entry_due σ r) _ _ (Departure r)
      (λ _. record {
        gone = r ∷ k.gone;
        ledger = ap (λ es. entry_of r ∷ es) k.ledger;
        measured = All-cons (Measured s.whole) r k.gone m k.measured;
        credits = λ c d. omega arith;
        counts = λ c. grind (arith, nat_tests);
      })
      (λ e. record {
        gone = k.gone;
        ledger = k.ledger;
        measured = k.measured;
        credits = λ c d. let none = lapsed s.whole σ.clock r m (ltb-false σ.clock (lapse r) e) in grind (arith, nat_tests);
        counts = λ c. omega arith;
      })

  -- A reservation leaves its core, and rs are live then: this is kept where its credit covers what rs claim more or hold less, and where
  -- each core has room for rs and still for it.
  departed : (r : Reservation) (rs : List Reservation) → Measured s.whole r → ((c d : ℕ) → owed_by s.whole c d rs + held_by s.whole σ.clock c d σ.live ≤ owed_by s.whole c d σ.live + held_by s.whole σ.clock c d rs + due c d r (credit s.whole σ.clock r)) → ((c : ℕ) → total (counted_for c) rs + departed_parts σ.clock c σ.ledger + counted_for c r ≤ bound s c) → Demand s (with_both σ rs (ledger_after σ r))
  departed r rs m claims counts =
      let away = departing r m in
      record {
        gone = away.gone;
        ledger = away.ledger;
        measured = away.measured;
        covered = λ c d h. omega (arith, k.covered c d h, away.credits c d, claims c d);
        fits = λ c. omega (arith, away.counts c, counts c);
      }

  pub left : (n : ℕ) (r : Reservation) → find n σ.live ≡ Some r → Measured s.whole r → Stocked r → Demand s (with_both σ (without n σ.live) (ledger_after σ r))
  left n r live m q =
      let less : (f : Reservation → ℕ) → total f (without n σ.live) + f r ≡ total f σ.live = λ f. total_without f n r σ.live live in
      departed r (without n σ.live) m
      (λ c d. omega (arith, leaving s.whole σ.clock c d r q, less (λ r. due c d r (owed s.whole r)), less (λ r. due c d r (held s.whole σ.clock r))))
      (λ c. omega (arith, k.fits c, less (counted_for c)))

  pub moved : (n core : ℕ) (r : Reservation) → find n σ.live ≡ Some r → Measured s.whole r → Stocked r → (r.core ≡ core → ⊥) → is_behind σ.clock r ≡ false → r.parts ≤ room s σ core → Demand s (with_both σ (change n (on_core r core) σ.live) (ledger_after σ r))
  moved n core r live m q other ahead place =
      let x = on_core r core in
      let change-of : (f : Reservation → ℕ) → total f (change n x σ.live) + f r ≡ total f σ.live + f x = λ f. total_change f n r x σ.live live in
      departed r (change n x σ.live) m
      (λ c d. omega (arith, moving s.whole σ.clock c d r core m q other ahead, change-of (λ r. due c d r (owed s.whole r)), change-of (λ r. due c d r (held s.whole σ.clock r))))
      (λ c. omega (arith, newcomer x place c, change-of (counted_for c)))

  -- One just admitted claims nothing.
  arriving : (c d q p parts core : ℕ) → due c d (admitted σ q p parts core) (owed s.whole (admitted σ q p parts core)) ≡ 0
  arriving c d q p parts core = grind (arith, nat_tests)

  pub came : (q p parts core : ℕ) → parts ≤ room s σ core → Demand s (with_newcomer σ (admitted σ q p parts core))
  came q p parts core place =
      let r = admitted σ q p parts core in
      record {
        gone = k.gone;
        ledger = k.ledger;
        measured = k.measured;
        covered = λ c d h. omega (
          arith,
          k.covered c d h,
          arriving c d q p parts core,
          total_push (λ r. due c d r (owed s.whole r)) σ.live r,
          total_push (λ r. due c d r (held s.whole σ.clock r)) σ.live r,
        );
        fits = λ c. let here = newcomer r place c in omega (arith, here, total_push (counted_for c) σ.live r);
      }
