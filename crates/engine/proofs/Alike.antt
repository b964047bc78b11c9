-- Two states that differ only in how their ledgers list the entries answer every call alike, and stay so.
use Rattle.std.proofs.Common.{◌≡◌, ℕ, suc, ◌+◌, ◌-◌, Bool, true, false, cond, not, ◌&&◌, ◌||◌, eqb, ltb, leb, List, [], ◌∷◌, length, Some, None, Option, sym, refl, ap, ◌∙◌, subst}
use Rattle.terms.specs.declared.refusals.Refusal.{Refusal}
use Rattle.terms.specs.declared.refusals.Refusal.TheVariants.{Limits, NotTaken, NoCore, RoundOut, WrongRound, ClockEnd, NoReservation, TooMany, NumbersGone, NoRoom, NotResting, Resting as AlreadyResting, SameCore, Behind, LedgerFull}
use Rattle.rules.specs.declared.types.Reservation.{Reservation}
use Rattle.rules.specs.declared.types.Entry.{Entry}
use Rattle.rules.specs.declared.types.Call.{Call}
use Rattle.rules.specs.declared.types.Call.TheVariants.{Admit, Wake, Rest, Leave, Move, Deal, Settle}
use Rattle.rules.specs.declared.types.Answer.{Answer}
use Rattle.rules.specs.declared.types.Answer.TheVariants.{Placed}
use Rattle.rules.specs.Setup.{Setup, last_tick}
use Rattle.rules.specs.System.{System, fresh, with_both, live_limit, ledger_limit, last_number}
use Rattle.rules.specs.Parts.{live_parts, counted, bounds, bound, room, rooms, rooms_from}
use Rattle.rules.specs.Server.{is_resting, is_behind, entry_of, on_core}
use Rattle.rules.specs.Lists.{find, change}
use Rattle.terms.specs.Limits.{in_limits}
use Rattle.rules.specs.Share.{ShareLaw}
use Rattle.rules.specs.Calls.{Outcome, refused, answered, check, given_by, admitted, with_newcomer, on_live, entry_due, place_for, ledger_after, departure, answer, admit, wake, rest, leave, move, deal, settle}
use Rattle.rules.specs.Replay.{state_after, answer_of, is_accepted, accepts, next, reply}
use Rattle.rules.proofs.Counts.{after_append}
use Rattle.ledger.specs.Entries.{SameEntries}
use Rattle.engine.specs.Shown.{Same, Performed}
use Rattle.ledger.proofs.Same.{same_length, same_departed, same_kept, same_cons}

pub same_refl : (σ : System) → Same σ σ
same_refl σ = record { clock = refl; live = refl; ledger = refl; given = refl; out = refl; names = refl }

pub same_sym : {σ τ : System} → Same σ τ → Same τ σ
same_sym h = record {
  clock = sym h.clock;
  live = sym h.live;
  ledger = sym h.ledger;
  given = sym h.given;
  out = sym h.out;
  names = sym h.names;
}

pub same_trans : {σ τ υ : System} → Same σ τ → Same τ υ → Same σ υ
same_trans h k = record {
  clock = h.clock ∙ k.clock;
  live = h.live ∙ k.live;
  ledger = h.ledger ∙ k.ledger;
  given = h.given ∙ k.given;
  out = h.out ∙ k.out;
  names = h.names ∙ k.names;
}

-- Outcomes alike: the same refusal, or the same answer and states that are the same.
data SameOutcome : Outcome → Outcome → Type 0 where
  both_refused : (n : Refusal) → SameOutcome (refused n) (refused n)
  both_answered : (a : Answer) {σ τ : System} → Same σ τ → SameOutcome (answered a σ) (answered a τ)

by_check : (b : Bool) (n : Refusal) (x y : Outcome) → SameOutcome x y → SameOutcome (check b n x) (check b n y)
by_check true n x y h = h
by_check false n x y h = both_refused n

by_given : {X : Type 0} (v : Option X) (n : Refusal) (f g : X → Outcome) → ((x : X) → SameOutcome (f x) (g x)) → SameOutcome (given_by v n f) (given_by v n g)
by_given None n f g h = both_refused n
by_given (Some x) n f g h = h x

-- the same but for how the ledger is listed
relists : (σ : System) (live : List Reservation) (xs ys : List Entry) → SameEntries xs ys → Same (with_both σ live xs) (with_both σ live ys)
relists σ live xs ys bag = record { clock = refl; live = refl; ledger = bag; given = refl; out = refl; names = refl }

module _ (s : Setup) (σ : System) (es : List Entry) (bag : SameEntries σ.ledger es) where
  abbrev τ : System
  τ = with_both σ σ.live es

  counted_same : (c : ℕ) → counted σ c ≡ counted τ c
  counted_same c = ap (λ n. live_parts c σ.live + n) (same_departed σ.ledger es bag σ.clock c)

  rooms_same : (c : ℕ) (bs : List ℕ) → rooms_from σ c bs ≡ rooms_from τ c bs
  rooms_same c [] = refl
  rooms_same c (b ∷ bs) = λ i. (b - counted_same c i) ∷ rooms_same (suc c) bs i

  place_same : (r : Reservation) → place_for σ r ≡ place_for τ r
  place_same r = ap (λ n. not (entry_due σ r) || ltb n ledger_limit) (same_length σ.ledger es bag)

  ledger_same : (r : Reservation) (due : Bool) → SameEntries (cond due (entry_of r ∷ σ.ledger) σ.ledger) (cond due (entry_of r ∷ es) es)
  ledger_same r true = same_cons σ.ledger es bag (entry_of r)
  ledger_same r false = bag

  departs_same : (live : List Reservation) (r : Reservation) → SameOutcome (check (place_for σ r) LedgerFull (answered (departure σ r) (with_both σ live (ledger_after σ r)))) (check (place_for τ r) LedgerFull (answered (departure τ r) (with_both τ live (ledger_after τ r))))
  departs_same live r =
      subst (λ b. SameOutcome (check (place_for σ r) LedgerFull (answered (departure σ r) (with_both σ live (ledger_after σ r)))) (check b LedgerFull (answered (departure τ r) (with_both τ live (ledger_after τ r))))) (place_same r)
      (by_check (place_for σ r) _ _ _ (both_answered _ (relists σ live _ _ (ledger_same r (entry_due σ r)))))

  -- what a call on a live reservation goes on with
  on_live_same : (n : ℕ) (f g : Reservation → Outcome) → ((r : Reservation) → SameOutcome (f r) (g r)) → SameOutcome (on_live σ n f) (on_live τ n g)
  on_live_same n f g h = by_check (not σ.out) RoundOut _ _ (by_given (find n σ.live) NoReservation f g h)

  alike : (c : Call) → SameOutcome (answer s σ c) (answer s τ c)
  unfolding admit wake rest leave move deal settle
  alike (Admit q p) =
      by_check (in_limits q p) Limits _ _ (by_given (s.price q p) NotTaken _ _ λ parts.
      by_check (not σ.out) RoundOut _ _ (by_check (ltb (length σ.live) live_limit) TooMany _ _ (by_check (ltb σ.given last_number) NumbersGone _ _
      (subst (λ v. SameOutcome (given_by (s.choice (rooms s σ) parts) NoRoom λ core. answered (Placed (σ.given + 1) core) (with_newcomer σ (admitted σ q p parts core))) (given_by (s.choice v parts) NoRoom λ core. answered (Placed (σ.given + 1) core) (with_newcomer τ (admitted σ q p parts core)))) (rooms_same 0 (bounds s))
      (by_given (s.choice (rooms s σ) parts) NoRoom _ _ λ core. both_answered _ record { clock = refl; live = refl; ledger = bag; given = refl; out = refl; names = refl })))))
  alike (Wake n) = on_live_same n _ _ λ r. by_check (is_resting r.state) NotResting _ _ (both_answered _ (relists σ _ _ _ bag))
  alike (Rest n) = on_live_same n _ _ λ r. by_check (not (is_resting r.state)) AlreadyResting _ _ (both_answered _ (relists σ _ _ _ bag))
  alike (Leave n) = on_live_same n _ _ λ r. departs_same _ r
  alike (Move n c) =
      by_check (ltb c (length s.figures)) NoCore _ _ (on_live_same n _ _ λ r.
      by_check (not (eqb r.core c)) SameCore _ _ (by_check (not (is_behind σ.clock r)) Behind _ _
      (subst (λ m. SameOutcome (check (leb r.parts (room s σ c)) NoRoom (check (place_for σ r) LedgerFull (answered (departure σ r) (with_both σ (change n (on_core r c) σ.live) (ledger_after σ r))))) (check (leb r.parts (bound s c - m)) NoRoom (check (place_for τ r) LedgerFull (answered (departure τ r) (with_both τ (change n (on_core r c) σ.live) (ledger_after τ r)))))) (counted_same c)
      (by_check (leb r.parts (room s σ c)) NoRoom _ _ (departs_same _ r)))))
  alike Deal = by_check (not σ.out) RoundOut _ _ (by_check (not (eqb σ.clock last_tick)) ClockEnd _ _ (both_answered _ record { clock = refl; live = refl; ledger = bag; given = refl; out = refl; names = refl }))
  alike (Settle t) = by_check (σ.out && eqb t σ.clock) WrongRound _ _ (both_answered _ record { clock = refl; live = refl; ledger = same_kept σ.ledger es bag _; given = refl; out = refl; names = refl })

-- A state that is the same lists its ledger otherwise, and no more.
relisting : {σ τ : System} → Same σ τ → with_both σ σ.live τ.ledger ≡ τ
relisting {σ} {τ} h = λ i. record {
  clock = h.clock i;
  live = h.live i;
  ledger = τ.ledger;
  given = h.given i;
  out = h.out i;
  names = h.names i;
}

outcomes : (s : Setup) {σ τ : System} → Same σ τ → (c : Call) → SameOutcome (answer s σ c) (answer s τ c)
outcomes s {σ} {τ} h c = subst (λ υ. SameOutcome (answer s σ c) (answer s υ c)) (relisting h) (alike s σ τ.ledger h.ledger c)

-- States that are the same give the same answer,
pub same_reply : (s : Setup) {σ τ : System} → Same σ τ → (c : Call) → reply s σ c ≡ reply s τ c
same_reply s {σ} {τ} h c = go (outcomes s h c)
  where
    go : {x y : Outcome} → SameOutcome x y → answer_of x ≡ answer_of y
    go (both_refused n) = refl
    go (both_answered a k) = refl

-- are accepted and refused alike,
pub same_accepts : (s : Setup) {σ τ : System} → Same σ τ → (c : Call) → accepts s σ c ≡ accepts s τ c
same_accepts s {σ} {τ} h c = go (outcomes s h c)
  where
    go : {x y : Outcome} → SameOutcome x y → is_accepted x ≡ is_accepted y
    go (both_refused n) = refl
    go (both_answered a k) = refl

-- and are the same after the call.
pub same_next : (s : Setup) {σ τ : System} → Same σ τ → (c : Call) → Same (next s σ c) (next s τ c)
same_next s {σ} {τ} h c = go (outcomes s h c)
  where
    go : {x y : Outcome} → SameOutcome x y → Same (state_after σ x) (state_after τ y)
    go (both_refused n) = h
    go (both_answered a k) = k

-- A call that is answered as the model says is performed.
pub performed : (s : Setup) (σ : System) (c : Call) (a : Answer) (τ : System) → ShareLaw s → a ≡ reply s σ c → Same τ (next s σ c) → Performed s σ c a τ
performed s σ c a τ law right shown = record {
  answer = right;
  next = shown;
  replayed = λ past h. (right ∙ same_reply s h c, same_trans shown (subst (Same (next s σ c)) (sym (after_append s (fresh s) past (c ∷ []))) (same_next s h c)));
  law = law;
}
