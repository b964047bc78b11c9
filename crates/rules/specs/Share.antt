-- The share law: what was agreed is dealt. Its words are taken from the calls: who is live, rests, leaves, is named or filled is what
-- the replay of the calls says.
use Rattle.std.specs.Prelude.{◌≡◌, ℕ, ◌+◌, ◌*◌, ◌/◌, ◌<◌, ◌≤◌, Bool, true, false, cond, not, ◌&&◌, ◌||◌, ◌↔◌, List, [], ◌∷◌, length, is_some, Some, None, Option, ◌==◌, slice_index_or}
use Rattle.terms.specs.declared.refusals.Refusal.TheVariants.{NoRoom}
use Rattle.terms.specs.Limits.{in_limits}
use Rattle.rules.specs.declared.types.Reservation.{Reservation}
use Rattle.rules.specs.declared.types.Call.{Call}
use Rattle.rules.specs.declared.types.Call.TheVariants.{Admit, Wake, Rest, Leave, Move, Deal, Settle}
use Rattle.rules.specs.declared.types.Answer.TheVariants.{Refused}
use Rattle.rules.specs.Lists.{find}
use Rattle.measure.specs.Laws.{Lawful as LawfulMeasure}
use Rattle.policy.specs.Laws.{Lawful as LawfulPolicy}
use Rattle.rules.specs.Setup.{Setup, making}
use Rattle.rules.specs.System.{System, fresh, live_limit, last_number}
use Rattle.rules.specs.Parts.{bound, counted}
use Rattle.rules.specs.Server.{keeps, charged_if, is_due, is_name}
use Rattle.rules.specs.Dealing.{is_ready_on, goes_first}
use Rattle.rules.specs.Replay.{next, reply, accepts, after, replay}

abbrev pub is_settle : Call → Bool
is_settle (Admit q p) = false
is_settle (Wake n) = false
is_settle (Rest n) = false
is_settle (Leave n) = false
is_settle (Move n c) = false
is_settle Deal = false
is_settle (Settle t) = true

-- The call is a rest or a leave of n.
abbrev pub stops : ℕ → Call → Bool
stops n (Admit q p) = false
stops n (Wake m) = false
stops n (Rest m) = m == n
stops n (Leave m) = m == n
stops n (Move m c) = false
stops n Deal = false
stops n (Settle t) = false

-- The number n is among the names dealt.
abbrev pub is_named : ℕ → List (Option ℕ) → Bool
is_named n [] = false
is_named n (x ∷ xs) = is_name n x || is_named n xs

-- A tick passes with each accepted settle.
abbrev pub ticks : Setup → System → List Call → ℕ
ticks s σ [] = 0
ticks s σ (c ∷ cs) = cond (is_settle c && accepts s σ c) 1 0 + ticks s (next s σ c) cs

-- n has run one tick for each accepted deal that named it, counted at the next accepted settle.
abbrev pub runs : Setup → ℕ → System → List Call → ℕ
runs s n σ [] = 0
runs s n σ (c ∷ cs) = cond (is_settle c && accepts s σ c && is_named n σ.names) 1 0 + runs s n (next s σ c) cs

-- No rest and no leave of n is accepted before tick t.
abbrev pub Stays : Setup → ℕ → ℕ → System → List Call → Type 0
Stays s n t σ [] = Unit {0}
Stays s n t σ (c ∷ cs) = (σ.clock < t → (stops n c && accepts s σ c) ≡ false) × Stays s n t (next s σ c) cs

-- The call c, accepted, fills the reservation r: it is a wake of it that does not keep its budget, or a settle at whose tick it is spent
-- and its deadline reached.
abbrev pub fills : System → Call → Reservation → Bool
fills σ (Admit q p) r = false
fills σ (Wake m) r = m == r.number && not (keeps σ.clock r)
fills σ (Rest m) r = false
fills σ (Leave m) r = false
fills σ (Move m c) r = false
fills σ Deal r = false
fills σ (Settle t) r = is_due (σ.clock + 1) (charged_if σ.names r)

-- The call c, made of the state σ, is accepted and fills n, whose terms are q in p.
pub record Filling (s : Setup) (σ : System) (c : Call) (n q p : ℕ) : Type 0 where
  pub of : Reservation
  pub live : find n σ.live ≡ Some of
  pub budget : of.budget ≡ q
  pub period : of.period ≡ p
  pub accepted : accepts s σ c ≡ true
  pub filled : fills σ c of ≡ true

-- The state right after the call c, which follows the calls past.
abbrev pub since : Setup → List Call → Call → System
since s past c = next s (replay s past) c

-- All checks of admit but the one for room pass, and the terms q in p have these parts.
pub record OnlyRoomAsked (s : Setup) (σ : System) (q p parts : ℕ) : Type 0 where
  pub limits : in_limits q p ≡ true
  pub taken : s.price q p ≡ Some parts
  pub settled : σ.out ≡ false
  pub place : length σ.live < live_limit
  pub number : σ.given < last_number

-- Core c is dealt to n: n is ready on it, and goes before each that is ready on it; or to none, and then none is ready on it.
abbrev pub DealtTo : System → ℕ → Option ℕ → Type 0
DealtTo σ c None = (m : ℕ) (x : Reservation) → find m σ.live ≡ Some x → is_ready_on c x ≡ false
DealtTo σ c (Some n) = (r : Reservation) × (find n σ.live ≡ Some r) × (is_ready_on c r ≡ true) × ((m : ℕ) (x : Reservation) → find m σ.live ≡ Some x → is_ready_on c x ≡ true → goes_first r x ≡ true)

pub record ShareLaw (s : Setup) : Type 0 where
  -- Filled at tick r, and neither rested nor gone before r + period, it has run exactly its budget since when the clock reaches r + period.
  pub exact : (past : List Call) (c : Call) (n q p : ℕ) (later : List Call) → Filling s (replay s past) c n q p → Stays s n ((since s past c).clock + p) (since s past c) later → ticks s (since s past c) later ≡ p → runs s n (since s past c) later ≡ q
  -- So many ticks after a filling, still live, it has run at most budget × (ticks + period) / period of them.
  pub most : (past : List Call) (c : Call) (n q p : ℕ) (later : List Call) → Filling s (replay s past) c n q p → is_some (find n (after s (since s past c) later).live) ≡ true → runs s n (since s past c) later ≤ q * (ticks s (since s past c) later + p) / p
  -- Where its other checks pass, admit is refused for room exactly when on every core counted parts and the newcomer's exceed the bound.
  pub room : (past : List Call) (q p parts : ℕ) → OnlyRoomAsked s (replay s past) q p parts → (reply s (replay s past) (Admit q p) ≡ Refused NoRoom) ↔ ((c : ℕ) → c < length s.figures → bound s c < counted (replay s past) c + parts)
  -- The clock is the start and a tick for each accepted settle.
  pub clock : (past : List Call) → (replay s past).clock ≡ s.start + ticks s (fresh s) past
  -- A record's ticks run are the ticks that its number has run.
  pub ran : (past : List Call) (n : ℕ) (r : Reservation) → find n (replay s past).live ≡ Some r → r.ran ≡ runs s n (fresh s) past
  -- An accepted deal names for each core the ready reservation with the earliest deadline, then the lowest number.
  pub dealt : (past : List Call) → accepts s (replay s past) Deal ≡ true → (c : ℕ) → c < length s.figures → DealtTo (replay s past) c (slice_index_or (since s past Deal).names c None)

-- What an engine is made from, accepted at the making, with a measure and a policy that show their laws.
pub record Lawful (s : Setup) : Type 0 where
  pub made : making s.figures s.start ≡ None
  pub measure : LawfulMeasure s.whole s.price
  pub policy : LawfulPolicy s.choice

-- The share law holds of every such engine.
abbrev pub Shares : Type 0
Shares = (s : Setup) → Lawful s → ShareLaw s

-- Where the making of an engine from these is accepted, the share law holds of it.
abbrev pub MadeShares : Setup → Type 0
MadeShares s = making s.figures s.start ≡ None → ShareLaw s
