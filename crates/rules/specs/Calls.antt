-- The seven calls: the checks in their order, each with its refusal, and then the answer and the next state.
use Rattle.std.specs.Prelude.{ℕ, ◌+◌, Bool, true, false, cond, not, ◌&&◌, ◌||◌, List, [], ◌∷◌, ◌++◌, map, length, Some, None, Option, ◌==◌, nat_le, nat_lt}
use Rattle.std.specs.List.{filter}
use Rattle.terms.specs.declared.refusals.Refusal.{Refusal}
use Rattle.terms.specs.declared.refusals.Refusal.TheVariants.{Limits, NotTaken, NoCore, RoundOut, WrongRound, ClockEnd, NoReservation, TooMany, NumbersGone, NoRoom, NotResting, Resting as AlreadyResting, SameCore, Behind, LedgerFull}
use Rattle.terms.specs.Limits.{in_limits}
use Rattle.rules.specs.declared.types.Reservation.{Reservation}
use Rattle.rules.specs.declared.types.State.TheVariants.{Resting}
use Rattle.rules.specs.declared.types.Entry.{Entry}
use Rattle.rules.specs.declared.types.Call.{Call}
use Rattle.rules.specs.declared.types.Call.TheVariants.{Admit, Wake, Rest, Leave, Move, Deal, Settle}
use Rattle.rules.specs.declared.types.Answer.{Answer}
use Rattle.rules.specs.declared.types.Answer.TheVariants.{Placed, Awake, Left, Until, Free, Dealt, Clock}
use Rattle.rules.specs.Lists.{find, change, without}
use Rattle.rules.specs.Setup.{Setup, last_tick}
use Rattle.rules.specs.System.{System, with_live, with_both, live_limit, ledger_limit, last_number}
use Rattle.rules.specs.Parts.{room, rooms}
use Rattle.rules.specs.Server.{is_resting, on_core, woken, rested, charged_if, refilled, lapse, is_behind, entry_of}
use Rattle.rules.specs.Dealing.{picks}

-- A call is refused, and nothing changes, or it is answered and the engine has a next state.
pub data Outcome : Type 0 where
  refused : Refusal → Outcome
  answered : Answer → System → Outcome

-- One check: where the test holds the call goes on, else it is refused.
abbrev pub check : Bool → Refusal → Outcome → Outcome
check true n rest = rest
check false n rest = refused n

-- Goes on with the value that is there, else it is refused.
abbrev pub given_by : {X : Type 0} → Option X → Refusal → (X → Outcome) → Outcome
given_by None n rest = refused n
given_by (Some x) n rest = rest x

-- A reservation just admitted: resting, no budget, the deadline at the clock, none run.
abbrev pub admitted : System → ℕ → ℕ → ℕ → ℕ → Reservation
admitted σ q p parts core = record {
  number = σ.given + 1;
  budget = q;
  period = p;
  parts = parts;
  core = core;
  left = 0;
  deadline = σ.clock;
  ran = 0;
  state = Resting;
}

-- The state with a reservation more, under the next number.
abbrev pub with_newcomer : System → Reservation → System
with_newcomer σ r = record {
  clock = σ.clock;
  live = σ.live ++ r ∷ [];
  ledger = σ.ledger;
  given = σ.given + 1;
  out = σ.out;
  names = σ.names;
}

unfoldable pub admit : Setup → System → ℕ → ℕ → Outcome
admit s σ q p =
    check (in_limits q p) Limits
    (given_by (s.price q p) NotTaken λ parts.
    check (not σ.out) RoundOut
    (check (nat_lt (length σ.live) live_limit) TooMany
    (check (nat_lt σ.given last_number) NumbersGone
    (given_by (s.choice (rooms s σ) parts) NoRoom λ core.
    answered (Placed (σ.given + 1) core) (with_newcomer σ (admitted σ q p parts core))))))

-- What a call on the live reservation n goes on with: no round is out, and n is live.
abbrev pub on_live : System → ℕ → (Reservation → Outcome) → Outcome
on_live σ n rest = check (not σ.out) RoundOut (given_by (find n σ.live) NoReservation rest)

unfoldable pub wake : System → ℕ → Outcome
wake σ n =
    on_live σ n λ r.
    check (is_resting r.state) NotResting
    (answered (Awake (woken σ.clock r).state (woken σ.clock r).deadline) (with_live σ (change n (woken σ.clock r) σ.live)))

unfoldable pub rest : System → ℕ → Outcome
rest σ n =
    on_live σ n λ r.
    check (not (is_resting r.state)) AlreadyResting (answered (Left r.left) (with_live σ (change n (rested r) σ.live)))

-- An entry is due for a reservation that leaves its core before its lapse tick.
abbrev pub entry_due : System → Reservation → Bool
entry_due σ r = nat_lt σ.clock (lapse r)

-- Where an entry is due there is a place for it.
abbrev pub place_for : System → Reservation → Bool
place_for σ r = not (entry_due σ r) || nat_lt (length σ.ledger) ledger_limit

-- The ledger with the entry that is due.
abbrev pub ledger_after : System → Reservation → List Entry
ledger_after σ r = cond (entry_due σ r) (entry_of r ∷ σ.ledger) σ.ledger

-- The lapse tick of the parts that stay counted, or that they are free.
abbrev pub departure : System → Reservation → Answer
departure σ r = cond (entry_due σ r) (Until (lapse r)) Free

unfoldable pub leave : System → ℕ → Outcome
leave σ n =
    on_live σ n λ r.
    check (place_for σ r) LedgerFull (answered (departure σ r) (with_both σ (without n σ.live) (ledger_after σ r)))

unfoldable pub move : Setup → System → ℕ → ℕ → Outcome
move s σ n core =
    check (nat_lt core (length s.figures)) NoCore
    (on_live σ n λ r.
    check (not (r.core == core)) SameCore
    (check (not (is_behind σ.clock r)) Behind
    (check (nat_le r.parts (room s σ core)) NoRoom
    (check (place_for σ r) LedgerFull
    (answered (departure σ r) (with_both σ (change n (on_core r core) σ.live) (ledger_after σ r)))))))

-- The state with a round out.
abbrev pub with_round : System → List (Option ℕ) → System
with_round σ ns = record { clock = σ.clock; live = σ.live; ledger = σ.ledger; given = σ.given; out = true; names = ns }

unfoldable pub deal : Setup → System → Outcome
deal s σ =
    check (not σ.out) RoundOut
    (check (not (σ.clock == last_tick)) ClockEnd
    (answered (Dealt σ.clock) (with_round σ (picks (length s.figures) σ.live))))

-- The state one tick on: the ones named are charged, the clock rises, the spent whose deadline it reaches are filled, and the entries
-- whose lapse tick it reaches go.
abbrev pub ticked : System → System
ticked σ = record {
  clock = σ.clock + 1;
  live = map (λ r. refilled (σ.clock + 1) (charged_if σ.names r)) σ.live;
  ledger = filter (λ e. nat_lt (σ.clock + 1) e.lapse) σ.ledger;
  given = σ.given;
  out = false;
  names = [];
}

unfoldable pub settle : System → ℕ → Outcome
settle σ tick = check (σ.out && tick == σ.clock) WrongRound (answered (Clock (σ.clock + 1)) (ticked σ))

-- What a call answers and leaves.
abbrev pub answer : Setup → System → Call → Outcome
answer s σ (Admit q p) = admit s σ q p
answer s σ (Wake n) = wake σ n
answer s σ (Rest n) = rest σ n
answer s σ (Leave n) = leave σ n
answer s σ (Move n c) = move s σ n c
answer s σ Deal = deal s σ
answer s σ (Settle tick) = settle σ tick
