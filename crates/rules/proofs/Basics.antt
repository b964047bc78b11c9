-- The plain invariant of every replay: what each live reservation keeps, the order of the numbers, the names and the ledger.
use Rattle.std.proofs.Common.{◌≡◌, ℕ, suc, ◌+◌, ◌-◌, ◌*◌, ◌/◌, ◌<◌, ◌≤◌, Bool, true, false, cond, eqb, ltb, List, [], ◌∷◌, length, get_or, Some, None, Option, refl, ap, ◌∙◌, subst, arith}
use lib.ListN.{length-map}
use Rattle.std.specs.List.{All}
use Rattle.std.proofs.lemmas.Bool.{ltb-true, leb-true, eqb-true, eqb-false, and_parts, cond_both}
use Rattle.std.proofs.lemmas.List.Elements.{All-nil, All-cons, All-weaker, All-push, All-map, filter_passes}
use Rattle.terms.specs.Limits.{in_limits}
use Rattle.rules.specs.declared.types.Reservation.{Reservation}
use Rattle.rules.specs.declared.types.State.{State}
use Rattle.rules.specs.declared.types.State.TheVariants.{Ready, Spent, Resting}
use Rattle.rules.specs.declared.types.Call.{Call}
use Rattle.rules.specs.declared.types.Answer.{Answer}
use Rattle.rules.specs.Lists.{find}
use Rattle.rules.specs.Setup.{Setup}
use Rattle.rules.specs.System.{System, fresh}
use Rattle.rules.specs.Parts.{bounds, rooms, rooms_from}
use Rattle.rules.specs.Server.{is_ready, is_spent, wanting, served, on_core, filled_to, keeps, woken, rested, charged, charged_if, is_name, is_due, refilled, lapse, entry_of}
use Rattle.rules.specs.Dealing.{picks}
use Rattle.rules.specs.Calls.{admitted, entry_due, ledger_after}
use Rattle.rules.specs.Replay.{next, after, replay}
use Rattle.rules.specs.Share.{Lawful}
use Rattle.rules.proofs.Steps.{Step, admits, wakes, rests, leaves, moves, deals, settles, by_step}
use Rattle.rules.proofs.Finding.{Above, found_all, found_number, all_change, all_without, above_change, above_without, above_push, above_map}

-- What is so of each live reservation at the tick t, with so many numbers given.
pub record Fair (s : Setup) (t given : ℕ) (r : Reservation) : Type 0 where
  pub number_high : r.number ≤ given
  pub core : r.core < length s.figures
  pub limits : in_limits r.budget r.period ≡ true
  pub priced : s.price r.budget r.period ≡ Some r.parts
  pub ready : is_ready r.state ≡ true → 1 ≤ r.left
  pub spent : is_spent r.state ≡ true → r.left ≡ 0
  pub within : r.left ≤ r.budget
  pub due : r.deadline ≤ t + r.period

pub record Basic (s : Setup) (σ : System) : Type 0 where
  pub ascending : Above 0 σ.live
  pub fair : All (Fair s σ.clock σ.given) σ.live
  pub dealt : σ.out ≡ true → σ.names ≡ picks (length s.figures) σ.live
  pub none_dealt : σ.out ≡ false → σ.names ≡ []
  pub lapsing : All (λ e. σ.clock < e.lapse) σ.ledger
  pub started : s.start ≤ σ.clock

-- The limits as orders.
pub record Limited (q p : ℕ) : Type 0 where
  pub budget_low : 1 ≤ q
  pub budget_high : q ≤ p
  pub period_high : p ≤ 1000000

pub limited : (q p : ℕ) → in_limits q p ≡ true → Limited q p
limited q p h =
    let a = and_parts _ _ h in
    let b = and_parts _ _ a.0 in
    record { budget_low = leb-true 1 q b.0; budget_high = leb-true q p b.1; period_high = leb-true p 1000000 a.1 }

-- A live reservation found keeps what is so of each.
pub fair_at : (s : Setup) (σ : System) → Basic s σ → (n : ℕ) (r : Reservation) → find n σ.live ≡ Some r → Fair s σ.clock σ.given r
fair_at s σ b n r h = found_all (Fair s σ.clock σ.given) n σ.live r b.fair h

length_rooms_from : (σ : System) (c : ℕ) (bs : List ℕ) → length (rooms_from σ c bs) ≡ length bs
length_rooms_from σ c [] = refl
length_rooms_from σ c (b ∷ bs) = ap suc (length_rooms_from σ (suc c) bs)

length_bounds : (s : Setup) → length (bounds s) ≡ length s.figures
length_bounds s = length-map s.figures (λ b. s.whole * b / 1000)

-- There is a room for each core.
pub length_rooms : (s : Setup) (σ : System) → length (rooms s σ) ≡ length s.figures
length_rooms s σ = length_rooms_from σ 0 (bounds s) ∙ length_bounds s

module _ (s : Setup) (t g : ℕ) (r : Reservation) (f : Fair s t g r) where
  fair_later : (t' g' : ℕ) → t ≤ t' → g ≤ g' → Fair s t' g' r
  fair_later t' g' l m =
      let due = f.due in
      let high = f.number_high in
      record { number_high = omega arith; core = f.core; limits = f.limits; priced = f.priced; ready = f.ready; spent = f.spent; within = f.within; due = omega arith }

  fair_served : (t' left deadline ran : ℕ) (state : State) → (is_ready state ≡ true → 1 ≤ left) → (is_spent state ≡ true → left ≡ 0) → left ≤ r.budget → deadline ≤ t' + r.period → Fair s t' g (served r left deadline ran state)
  fair_served t' left deadline ran state ready spent within due =
      record { number_high = f.number_high; core = f.core; limits = f.limits; priced = f.priced; ready = ready; spent = spent; within = within; due = due }

  fair_filled : (t' deadline : ℕ) → deadline ≤ t' + r.period → Fair s t' g (filled_to deadline r)
  fair_filled t' deadline due =
      let l = limited r.budget r.period f.limits in
      fair_served t' r.budget deadline r.ran Ready (λ _. l.budget_low) (λ e. cc) (omega arith) due

  fair_wanting : (left deadline ran : ℕ) → left ≤ r.budget → deadline ≤ t + r.period → Fair s t g (served r left deadline ran (wanting left))
  fair_wanting left deadline ran within due = go (eqb left 0) refl
    where
      go : (w : Bool) → eqb left 0 ≡ w → Fair s t g (served r left deadline ran (cond w Spent Ready))
      go true e = fair_served t left deadline ran Spent (λ x. cc) (λ _. eqb-true left 0 e) within due
      go false e = let d = eqb-false left 0 e in fair_served t left deadline ran Ready (λ _. omega arith) (λ x. cc) within due

  fair_woken : Fair s t g (woken t r)
  fair_woken = cond_both (keeps t r) _ _ (Fair s t g) (λ _. fair_wanting r.left r.deadline r.ran f.within f.due) (λ _. fair_filled t (t + r.period) (omega arith))

  fair_rested : Fair s t g (rested r)
  fair_rested = fair_served t r.left r.deadline r.ran Resting (λ x. cc) (λ x. cc) f.within f.due

  fair_moved : (core : ℕ) → core < length s.figures → Fair s t g (on_core r core)
  fair_moved core h = record { number_high = f.number_high; core = h; limits = f.limits; priced = f.priced; ready = f.ready; spent = f.spent; within = f.within; due = f.due }

  pub fair_run : (run : Bool) → Fair s t g (cond run (charged r) r)
  fair_run true = let w = f.within in fair_wanting (r.left - 1) r.deadline (r.ran + 1) (omega arith) f.due
  fair_run false = f

fair_refilled : (s : Setup) (t g : ℕ) (r : Reservation) → Fair s t g r → Fair s (t + 1) g (refilled (t + 1) r)
fair_refilled s t g r f = cond_both (is_due (t + 1) r) _ _ (Fair s (t + 1) g) (λ e. let d : r.deadline ≡ t + 1 = eqb-true r.deadline (t + 1) (and_parts (is_spent r.state) (eqb r.deadline (t + 1)) e).1 in fair_filled s t g r f (t + 1) (r.deadline + r.period) (omega arith)) (λ _. fair_later s t g r f (t + 1) g (omega arith) (omega arith))

-- Charged and filled, a reservation keeps its number.
pub ticked_number : (names : List (Option ℕ)) (t : ℕ) (r : Reservation) → (refilled t (charged_if names r)).number ≡ r.number
ticked_number names t r =
    cond_both (is_due t (charged_if names r)) _ _ (λ (x : Reservation). x.number ≡ r.number) (λ _. same) (λ _. same)
  where
    same : (charged_if names r).number ≡ r.number
    same = cond_both (is_name r.number (get_or names r.core None)) _ _ (λ (x : Reservation). x.number ≡ r.number) (λ _. refl) (λ _. refl)

pub woken_number : (t : ℕ) (r : Reservation) → (woken t r).number ≡ r.number
woken_number t r = cond_both (keeps t r) _ _ (λ (x : Reservation). x.number ≡ r.number) (λ _. refl) (λ _. refl)

lapsing_after : (σ : System) (r : Reservation) → All (λ e. σ.clock < e.lapse) σ.ledger → All (λ e. σ.clock < e.lapse) (ledger_after σ r)
lapsing_after σ r a = cond_both (entry_due σ r) _ _ (All (λ e. σ.clock < e.lapse)) (λ e. All-cons (λ e. σ.clock < e.lapse) (entry_of r) σ.ledger (ltb-true σ.clock (lapse r) e) a) (λ _. a)

basic_step : (s : Setup) → Lawful s → (σ : System) (c : Call) (a : Answer) (σ' : System) → Basic s σ → Step s σ c a σ' → Basic s σ'
basic_step s law σ c a σ' b (admits q p parts core limits taken settled place number chosen) = record {
  ascending = above_push 0 σ.given σ.live _ b.ascending (All-weaker (Fair s σ.clock σ.given) (λ x. x.number ≤ σ.given) (λ x f. f.number_high) σ.live b.fair) (omega arith) (omega arith);
  fair = All-push (Fair s σ.clock (σ.given + 1)) σ.live _ (All-weaker (Fair s σ.clock σ.given) _ (λ x f. fair_later s σ.clock σ.given x f σ.clock (σ.given + 1) (omega arith) (omega arith)) σ.live b.fair) newcomer;
  dealt = λ e. cc;
  none_dealt = b.none_dealt;
  lapsing = b.lapsing;
  started = b.started;
}
  where
    newcomer : Fair s σ.clock (σ.given + 1) (admitted σ q p parts core)
    newcomer = record {
      number_high = omega arith;
      core = subst (λ (n : ℕ). core < n) (length_rooms s σ) (law.policy.exists (rooms s σ) parts core chosen);
      limits = limits;
      priced = taken;
      ready = λ e. cc;
      spent = λ e. cc;
      within = omega arith;
      due = omega arith;
    }
basic_step s law σ c a σ' b (wakes n r settled live resting) = record {
  ascending = above_change 0 n (woken σ.clock r) σ.live (woken_number σ.clock r ∙ found_number n σ.live r live) b.ascending;
  fair = all_change (Fair s σ.clock σ.given) n _ σ.live (fair_woken s σ.clock σ.given r (fair_at s σ b n r live)) b.fair;
  dealt = λ e. cc;
  none_dealt = b.none_dealt;
  lapsing = b.lapsing;
  started = b.started;
}
basic_step s law σ c a σ' b (rests n r settled live wants) = record {
  ascending = above_change 0 n (rested r) σ.live (found_number n σ.live r live) b.ascending;
  fair = all_change (Fair s σ.clock σ.given) n _ σ.live (fair_rested s σ.clock σ.given r (fair_at s σ b n r live)) b.fair;
  dealt = λ e. cc;
  none_dealt = b.none_dealt;
  lapsing = b.lapsing;
  started = b.started;
}
basic_step s law σ c a σ' b (leaves n r settled live place) = record {
  ascending = above_without 0 n σ.live b.ascending;
  fair = all_without (Fair s σ.clock σ.given) n σ.live b.fair;
  dealt = λ e. cc;
  none_dealt = b.none_dealt;
  lapsing = lapsing_after σ r b.lapsing;
  started = b.started;
}
basic_step s law σ c a σ' b (moves n core r exists settled live other ahead fits place) = record {
  ascending = above_change 0 n (on_core r core) σ.live (found_number n σ.live r live) b.ascending;
  fair = all_change (Fair s σ.clock σ.given) n _ σ.live (fair_moved s σ.clock σ.given r (fair_at s σ b n r live) core exists) b.fair;
  dealt = λ e. cc;
  none_dealt = b.none_dealt;
  lapsing = lapsing_after σ r b.lapsing;
  started = b.started;
}
basic_step s law σ c a σ' b (deals settled going) = record {
  ascending = b.ascending;
  fair = b.fair;
  dealt = λ _. refl;
  none_dealt = λ e. cc;
  lapsing = b.lapsing;
  started = b.started;
}
basic_step s law σ c a σ' b (settles tick out right) = record {
  ascending = above_map _ (ticked_number σ.names (σ.clock + 1)) 0 σ.live b.ascending;
  fair = All-map (Fair s (σ.clock + 1) σ.given) (λ r. refilled (σ.clock + 1) (charged_if σ.names r)) σ.live (All-weaker (Fair s σ.clock σ.given) _ (λ r f. fair_refilled s σ.clock σ.given _ (fair_run s σ.clock σ.given r f (is_name r.number (get_or σ.names r.core None)))) σ.live b.fair);
  dealt = λ e. cc;
  none_dealt = λ _. refl;
  lapsing = All-weaker (λ e. ltb (σ.clock + 1) e.lapse ≡ true) (λ e. σ.clock + 1 < e.lapse) (λ e h. ltb-true _ _ h) _ (filter_passes (λ e. ltb (σ.clock + 1) e.lapse) σ.ledger);
  started = let l = b.started in omega arith;
}

pub basic_next : (s : Setup) → Lawful s → (σ : System) (c : Call) → Basic s σ → Basic s (next s σ c)
basic_next s law σ c b = by_step s σ c (λ _ _ σ'. Basic s σ') (λ _. b) (λ a σ' t. basic_step s law σ c a σ' b t)

pub basic_after : (s : Setup) → Lawful s → (σ : System) (cs : List Call) → Basic s σ → Basic s (after s σ cs)
basic_after s law σ [] b = b
basic_after s law σ (c ∷ cs) b = basic_after s law (next s σ c) cs (basic_next s law σ c b)

-- The plain invariant holds of every replay.
pub basic : (s : Setup) → Lawful s → (past : List Call) → Basic s (replay s past)
basic s law past = basic_after s law (fresh s) past (record { ascending = tt; fair = All-nil (Fair s s.start 0); dealt = λ e. cc; none_dealt = λ _. refl; lapsing = All-nil (λ e. s.start < e.lapse); started = omega arith })
