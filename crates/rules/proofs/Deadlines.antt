-- In every replay no ready reservation has reached its deadline.
use Rattle.std.proofs.Common.{◌≡◌, ℕ, ◌<◌, ◌≤◌, true, List, [], ◌∷◌, Some, refl, ⊎_elim, arith}
use Rattle.std.proofs.lemmas.List.Elements.{All-nil}
use Rattle.std.proofs.lemmas.Bool.{cases_lt, cond_both}
use Rattle.rules.specs.declared.types.Reservation.{Reservation}
use Rattle.rules.specs.declared.types.Call.{Call}
use Rattle.rules.specs.declared.types.Answer.{Answer}
use Rattle.rules.specs.Lists.{find}
use Rattle.rules.specs.Setup.{Setup}
use Rattle.rules.specs.System.{System, fresh}
use Rattle.rules.specs.Server.{is_ready, keeps, woken, rested}
use Rattle.rules.specs.Replay.{next, after, replay}
use Rattle.rules.specs.Share.{Lawful}
use Rattle.rules.proofs.Steps.{Step, admits, wakes, rests, leaves, moves, deals, settles, by_step}
use Rattle.rules.proofs.Basics.{Basic, fair_at, basic_next, basic}
use Rattle.rules.proofs.Rooms.{room_named}
use Rattle.rules.proofs.Totals.{total_found, total_none}
use Rattle.rules.proofs.Credits.{Measured, owed, held, credit, due, none_due, claiming, waking, resting}
use Rattle.rules.proofs.Demand.{Demand, counted_for, measured_by, stocked_by, changed, left, moved, came}
use Rattle.rules.proofs.Ticking.{settled}

-- Every step keeps the claims covered.
demand_step : (s : Setup) → Lawful s → (σ : System) (c : Call) (a : Answer) (σ' : System) → Basic s σ → Demand s σ → Step s σ c a σ' → Demand s σ'
demand_step s law σ c a σ' b k (admits q p parts core limits taken idle place number chosen) = came s σ k q p parts core (room_named s law σ parts core chosen)
demand_step s law σ c a σ' b k (wakes n r idle live at_rest) =
    changed s σ k n r (woken σ.clock r) live
    (λ c d. waking s.whole σ.clock c d r (measured_by s law σ.clock σ.given r (fair_at s σ b n r live)) at_rest)
    (λ c. cond_both (keeps σ.clock r) _ _ (λ x. counted_for c x ≡ counted_for c r) (λ _. refl) (λ _. refl))
demand_step s law σ c a σ' b k (rests n r idle live wants) =
    changed s σ k n r (rested r) live
    (λ c d. resting s.whole σ.clock c d r (stocked_by s σ.clock σ.given r (fair_at s σ b n r live)) wants)
    (λ c. refl)
demand_step s law σ c a σ' b k (leaves n r idle live place) =
    let f = fair_at s σ b n r live in
    left s σ k n r live (measured_by s law σ.clock σ.given r f) (stocked_by s σ.clock σ.given r f)
demand_step s law σ c a σ' b k (moves n core r exists idle live other ahead fits place) =
    let f = fair_at s σ b n r live in
    moved s σ k n core r live (measured_by s law σ.clock σ.given r f) (stocked_by s σ.clock σ.given r f) other ahead fits
demand_step s law σ c a σ' b k (deals idle going) = record { gone = k.gone; ledger = k.ledger; measured = k.measured; covered = k.covered; fits = k.fits }
demand_step s law σ c a σ' b k (settles tick out right) = settled s law σ b out k

demand_after : (s : Setup) → Lawful s → (σ : System) (cs : List Call) → Basic s σ → Demand s σ → Demand s (after s σ cs)
demand_after s law σ [] b k = k
demand_after s law σ (c ∷ cs) b k = demand_after s law (next s σ c) cs (basic_next s law σ c b) (by_step s σ c (λ _ _ σ'. Demand s σ') (λ _. k) (λ a σ' t. demand_step s law σ c a σ' b k t))

-- In every replay the claims are covered.
pub demand : (s : Setup) → Lawful s → (past : List Call) → Demand s (replay s past)
demand s law past =
    demand_after s law (fresh s) past (basic s law [])
    (record { gone = []; ledger = refl; measured = All-nil (Measured s.whole); covered = λ c d h. omega arith; fits = λ c. omega arith })

-- Where the claims are covered, no ready reservation has reached its deadline: nothing is held up to the clock, and no credit.
before_deadline : (s : Setup) → Lawful s → (σ : System) → Basic s σ → Demand s σ → (n : ℕ) (r : Reservation) → find n σ.live ≡ Some r → is_ready r.state ≡ true → σ.clock < r.deadline
before_deadline s law σ b k n r live ready =
    ⊎_elim
    (λ (early : σ.clock < r.deadline). early)
    (λ (late : r.deadline ≤ σ.clock).
    let f = fair_at s σ b n r live in
    absurd
    (omega (
      arith,
      claiming s.whole r.core σ.clock r law.measure.whole_low (stocked_by s σ.clock σ.given r f) ready refl late,
      total_found (λ x. due r.core σ.clock x (owed s.whole x)) n r σ.live live,
      k.covered r.core σ.clock f.core,
      total_none (λ x. due r.core σ.clock x (held s.whole σ.clock x)) (λ x. (none_due s.whole σ.clock r.core x).0) σ.live,
      total_none (λ x. due r.core σ.clock x (credit s.whole σ.clock x)) (λ x. (none_due s.whole σ.clock r.core x).1) k.gone,
    )))
    (cases_lt σ.clock r.deadline)

pub in_time : (s : Setup) → Lawful s → (past : List Call) (n : ℕ) (r : Reservation) → find n (replay s past).live ≡ Some r → is_ready r.state ≡ true → (replay s past).clock < r.deadline
in_time s law past n r live ready = before_deadline s law (replay s past) (basic s law past) (demand s law past) n r live ready
