-- The accepted calls as steps, each with what its checks said, and the one lemma that opens the checks of every call.
use Rattle.std.proofs.Common.{◌≡◌, ℕ, ◌+◌, ◌<◌, ◌≤◌, Bool, true, false, eqb, length, Some, None, Option, refl}
use Rattle.std.proofs.lemmas.Bool.{not-true, ltb-true, leb-true, eqb-true, eqb-false, and_parts}
use Rattle.terms.specs.declared.refusals.Refusal.{Refusal}
use Rattle.terms.specs.Limits.{in_limits}
use Rattle.rules.specs.declared.types.Reservation.{Reservation}
use Rattle.rules.specs.declared.types.Call.{Call}
use Rattle.rules.specs.declared.types.Call.TheVariants.{Admit, Wake, Rest, Leave, Move, Deal, Settle}
use Rattle.rules.specs.declared.types.Answer.{Answer}
use Rattle.rules.specs.declared.types.Answer.TheVariants.{Placed, Awake, Left, Dealt, Clock}
use Rattle.rules.specs.Lists.{find, change, without}
use Rattle.rules.specs.Setup.{Setup, last_tick}
use Rattle.rules.specs.System.{System, with_live, with_both, live_limit, last_number}
use Rattle.rules.specs.Parts.{room, rooms}
use Rattle.rules.specs.Server.{is_resting, is_behind, on_core, woken, rested}
use Rattle.rules.specs.Dealing.{picks}
use Rattle.rules.specs.Calls.{Outcome, refused, answered, check, given_by, admitted, with_newcomer, place_for, ledger_after, departure, with_round, ticked, answer, admit, wake, rest, leave, move, deal, settle}
use Rattle.rules.specs.Replay.{state_after, answer_of, is_accepted, next, reply, accepts}

-- The call is accepted, with this answer and this next state.
pub data Step (s : Setup) (σ : System) : Call → Answer → System → Type 0 where
  admits : (q p parts core : ℕ) → in_limits q p ≡ true → s.price q p ≡ Some parts → σ.out ≡ false → length σ.live < live_limit → σ.given < last_number → s.choice (rooms s σ) parts ≡ Some core → Step s σ (Admit q p) (Placed (σ.given + 1) core) (with_newcomer σ (admitted σ q p parts core))
  wakes : (n : ℕ) (r : Reservation) → σ.out ≡ false → find n σ.live ≡ Some r → is_resting r.state ≡ true → Step s σ (Wake n) (Awake (woken σ.clock r).state (woken σ.clock r).deadline) (with_live σ (change n (woken σ.clock r) σ.live))
  rests : (n : ℕ) (r : Reservation) → σ.out ≡ false → find n σ.live ≡ Some r → is_resting r.state ≡ false → Step s σ (Rest n) (Left r.left) (with_live σ (change n (rested r) σ.live))
  leaves : (n : ℕ) (r : Reservation) → σ.out ≡ false → find n σ.live ≡ Some r → place_for σ r ≡ true → Step s σ (Leave n) (departure σ r) (with_both σ (without n σ.live) (ledger_after σ r))
  moves : (n core : ℕ) (r : Reservation) → core < length s.figures → σ.out ≡ false → find n σ.live ≡ Some r → (r.core ≡ core → ⊥) → is_behind σ.clock r ≡ false → r.parts ≤ room s σ core → place_for σ r ≡ true → Step s σ (Move n core) (departure σ r) (with_both σ (change n (on_core r core) σ.live) (ledger_after σ r))
  deals : σ.out ≡ false → (σ.clock ≡ last_tick → ⊥) → Step s σ Deal (Dealt σ.clock) (with_round σ (picks (length s.figures) σ.live))
  settles : (tick : ℕ) → σ.out ≡ true → tick ≡ σ.clock → Step s σ (Settle tick) (Clock (σ.clock + 1)) (ticked σ)

-- An outcome of the call is a refusal or a step.
pub data Opens (s : Setup) (σ : System) (c : Call) : Outcome → Type 0 where
  refusal : (n : Refusal) → Opens s σ c (refused n)
  step : (a : Answer) (σ' : System) → Step s σ c a σ' → Opens s σ c (answered a σ')

module _ (s : Setup) (σ : System) (c : Call) where
  by_check : (b : Bool) (n : Refusal) (o : Outcome) → (b ≡ true → Opens s σ c o) → Opens s σ c (check b n o)
  by_check true n o h = h refl
  by_check false n o h = refusal n

  by_given : {X : Type 0} (v : Option X) (n : Refusal) (o : X → Outcome) → ((x : X) → v ≡ Some x → Opens s σ c (o x)) → Opens s σ c (given_by v n o)
  by_given None n o h = refusal n
  by_given (Some x) n o h = h x refl

-- Every call is refused or a step.
pub opens : (s : Setup) (σ : System) (c : Call) → Opens s σ c (answer s σ c)
unfolding admit wake rest leave move deal settle
opens s σ (Admit q p) = by_check s σ _ _ _ _ λ limits. by_given s σ _ _ _ _ λ parts taken. by_check s σ _ _ _ _ λ settled. by_check s σ _ _ _ _ λ place. by_check s σ _ _ _ _ λ number. by_given s σ _ _ _ _ λ core chosen. step _ _ (admits q p parts core limits taken (not-true σ.out settled) (ltb-true _ _ place) (ltb-true _ _ number) chosen)
opens s σ (Wake n) = by_check s σ _ _ _ _ λ settled. by_given s σ _ _ _ _ λ r live. by_check s σ _ _ _ _ λ resting. step _ _ (wakes n r (not-true σ.out settled) live resting)
opens s σ (Rest n) = by_check s σ _ _ _ _ λ settled. by_given s σ _ _ _ _ λ r live. by_check s σ _ _ _ _ λ wanting. step _ _ (rests n r (not-true σ.out settled) live (not-true (is_resting r.state) wanting))
opens s σ (Leave n) = by_check s σ _ _ _ _ λ settled. by_given s σ _ _ _ _ λ r live. by_check s σ _ _ _ _ λ place. step _ _ (leaves n r (not-true σ.out settled) live place)
opens s σ (Move n core) = by_check s σ _ _ _ _ λ exists. by_check s σ _ _ _ _ λ settled. by_given s σ _ _ _ _ λ r live. by_check s σ _ _ _ _ λ other. by_check s σ _ _ _ _ λ ahead. by_check s σ _ _ _ _ λ fits. by_check s σ _ _ _ _ λ place. step _ _ (moves n core r (ltb-true _ _ exists) (not-true σ.out settled) live (eqb-false _ _ (not-true (eqb r.core core) other)) (not-true (is_behind σ.clock r) ahead) (leb-true _ _ fits) place)
opens s σ Deal = by_check s σ _ _ _ _ λ settled. by_check s σ _ _ _ _ λ going. step _ _ (deals (not-true σ.out settled) (eqb-false _ _ (not-true (eqb σ.clock last_tick) going)))
opens s σ (Settle tick) = by_check s σ _ _ _ _ λ right. let both = and_parts σ.out (eqb tick σ.clock) right in step _ _ (settles tick both.0 (eqb-true _ _ both.1))

-- What holds of a refusal, which changes nothing, and of every step holds of the call.
pub by_step : (s : Setup) (σ : System) (c : Call) (P : Bool → Answer → System → Type 0) → ((n : Refusal) → P false (Answer.Refused n) σ) → ((a : Answer) (σ' : System) → Step s σ c a σ' → P true a σ') → P (accepts s σ c) (reply s σ c) (next s σ c)
by_step s σ c P refusals steps = go (answer s σ c) (opens s σ c)
  where
    go : (o : Outcome) → Opens s σ c o → P (is_accepted o) (answer_of o) (state_after σ o)
    go o (refusal n) = refusals n
    go o (step a σ' t) = steps a σ' t
