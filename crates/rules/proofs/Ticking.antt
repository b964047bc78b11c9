-- A settle keeps the claims covered: on a core that is dealt to one due up to d, the claims fall by one tick and the shares by at
-- most what the core counts; on a core with none ready that is due up to d, the claims after the tick are those just filled.
use Rattle.std.proofs.Common.{◌≡◌, ℕ, suc, ◌+◌, ◌*◌, ◌/◌, ◌<◌, ◌≤◌, Bool, true, false, cond, ◌&&◌, eqb, ltb, List, [], ◌∷◌, map, length, get_or, Some, None, filter, Option, sym, refl, ap, ◌∙◌, ⊎_elim, le_of_eq, mul-le-mul_left, arith}
use Rattle.std.specs.Option.{option_map}
use Rattle.std.specs.List.{All}
use Rattle.std.proofs.lemmas.Bool.Decides.{nat_tests}
use Rattle.std.proofs.lemmas.Bool.{ltb-false, eqb-true, and_parts, and_from, eq-eqb, cases_lt, cond_both}
use Rattle.std.proofs.lemmas.List.Elements.{All-weaker, All-filter}
use Rattle.rules.specs.declared.types.Reservation.{Reservation}
use Rattle.rules.specs.declared.types.Entry.{Entry}
use Rattle.rules.specs.Lists.{total, find}
use Rattle.rules.specs.Setup.{Setup, figures_fit, making}
use Rattle.rules.specs.System.{System}
use Rattle.rules.specs.Parts.{live_parts, departed_parts, counted, bound}
use Rattle.rules.specs.Server.{is_ready, is_name, charged, charged_if, is_due, refilled, lapse, entry_of}
use Rattle.rules.specs.Dealing.{is_ready_on, goes_first, pick, picks}
use Rattle.rules.specs.Calls.{ticked}
use Rattle.rules.specs.Share.{Lawful}
use Rattle.rules.proofs.Finding.{found_all, each_found}
use Rattle.rules.proofs.Basics.{Basic, fair_at}
use Rattle.rules.proofs.Picking.{pick_found, pick_ready, pick_first, pick_none, get_or_picks, name_ready}
use Rattle.rules.proofs.Weights.{one, weight, weight_whole, weight_sum}
use Rattle.rules.proofs.Totals.{total_map, total_le, total_sum, total_kept, total_found, kept_map, total_weight}
use Rattle.rules.proofs.Credits.{Measured, owed, held, credit, due, lapsed, passing, charging, calm, fading}
use Rattle.rules.proofs.Demand.{Demand, owed_by, held_by, credit_by, counted_for, measured_by, stocked_by}

-- A bound is at most the whole.
pub bounds_high : (w : ℕ) (bs : List ℕ) (c : ℕ) → figures_fit bs ≡ true → get_or (map (λ b. w * b / 1000) bs) c 0 ≤ w
bounds_high w [] c h = omega arith
bounds_high w (b ∷ bs) ℕ.zero h =
    let fit : b ≤ 1000 = grind (arith, nat_tests) in
    omega (arith, mul-le-mul_left w fit)
bounds_high w (b ∷ bs) (suc c) h = bounds_high w bs c (and_parts _ _ h).1

pub figures_fit_lem : (bs : List ℕ) (start : ℕ) → making bs start ≡ None → figures_fit bs ≡ true
figures_fit_lem bs start h = grind (arith, nat_tests)

bound_high : (s : Setup) → Lawful s → (c : ℕ) → bound s c ≤ s.whole
bound_high s law c = bounds_high s.whole s.figures c (figures_fit_lem s.figures s.start law.made)

-- The reservation is the one named for its core.
abbrev is_named_one : System → Reservation → Bool
is_named_one σ r = is_name r.number (get_or σ.names r.core None)

-- The reservation after the tick.
abbrev passed : System → Reservation → Reservation
passed σ r = refilled (σ.clock + 1) (charged_if σ.names r)

-- The one named is ready.
named_ready : (s : Setup) (σ : System) → Basic s σ → σ.out ≡ true → (r : Reservation) → find r.number σ.live ≡ Some r → is_named_one σ r ≡ true → is_ready r.state ≡ true
named_ready s σ b out r found named =
    name_ready r.number r σ.live b.ascending found (length s.figures) (fair_at s σ b r.number r found).core
    (ap (λ ns. is_name r.number (get_or ns r.core None)) (sym (b.dealt out)) ∙ named)

measured_charged : (w : ℕ) (names : List (Option ℕ)) (r : Reservation) → Measured w r → Measured w (charged_if names r)
measured_charged w names r m =
    cond_both (is_name r.number (get_or names r.core None)) _ _ (Measured w)
    (λ _. record { budget_low = m.budget_low; period_low = m.period_low; period_high = m.period_high; covers = m.covers })
    (λ _. m)

-- One reservation over the tick.
spending : (s : Setup) → Lawful s → (σ : System) → Basic s σ → σ.out ≡ true → (c d : ℕ) (r : Reservation) → find r.number σ.live ≡ Some r → due c d (passed σ r) (owed s.whole (passed σ r)) + (due c d r (held s.whole σ.clock r) + due c d r (cond (is_named_one σ r) (one s.whole) 0)) ≤ due c d r (owed s.whole r) + (due c d (passed σ r) (held s.whole (σ.clock + 1) (passed σ r)) + cond (eqb r.core c) (weight r.parts) 0)
spending s law σ b out c d r found =
    let f = fair_at s σ b r.number r found in
    let m = measured_by s law σ.clock σ.given r f in
    let same : cond (eqb (charged_if σ.names r).core c) (weight (charged_if σ.names r).parts) 0 ≡ cond (eqb r.core c) (weight r.parts) 0 = cond_both (is_named_one σ r) (charged r) r (λ x. cond (eqb x.core c) (weight x.parts) 0 ≡ cond (eqb r.core c) (weight r.parts) 0) (λ _. refl) (λ _. refl) in
    omega (
      arith,
      same,
      charging s.whole σ.clock c d r (is_named_one σ r) (stocked_by s σ.clock σ.given r f) (named_ready s σ b out r found),
      passing s.whole σ.clock c d (charged_if σ.names r) (measured_charged s.whole σ.names r m),
    )

-- The departed whose lapse tick is after the new clock.
abbrev lasting : System → List Reservation → List Reservation
lasting σ rs = filter (λ r. ltb (σ.clock + 1) (lapse r)) rs

-- A core's counted parts weigh at most one tick.
counted_weight : (s : Setup) → Lawful s → (σ : System) → Demand s σ → (c : ℕ) → weight (live_parts c σ.live) + weight (departed_parts σ.clock c σ.ledger) ≤ one s.whole
counted_weight s law σ k c =
    let fit = k.fits c in
    let high = bound_high s law c in
    omega (arith, weight_sum (live_parts c σ.live) (departed_parts σ.clock c σ.ledger), weight_whole (counted σ c) s.whole (omega arith))

-- The credit of the departed falls by at most the weight that the core counts for them.
credit_tick : (s : Setup) (σ : System) (k : Demand s σ) (c d : ℕ) → credit_by s.whole σ.clock c d k.gone ≤ credit_by s.whole (σ.clock + 1) c d (lasting σ k.gone) + weight (departed_parts σ.clock c σ.ledger)
credit_tick s σ k c d =
    let fall : credit_by s.whole σ.clock c d k.gone ≤ total (λ r. due c d r (credit s.whole (σ.clock + 1) r) + cond (eqb r.core c && ltb σ.clock (lapse r)) (weight r.parts) 0) k.gone = total_le _ _ k.gone (All-weaker (Measured s.whole) _ (λ r m. fading s.whole σ.clock c d r m) k.gone k.measured) in
    let parts : departed_parts σ.clock c σ.ledger ≡ total (λ r. cond (eqb r.core c && ltb σ.clock (lapse r)) r.parts 0) k.gone = ap (departed_parts σ.clock c) k.ledger ∙ total_map _ entry_of k.gone in
    omega (
      arith,
      total_sum (λ r. due c d r (credit s.whole (σ.clock + 1) r)) (λ r. cond (eqb r.core c && ltb σ.clock (lapse r)) (weight r.parts) 0) k.gone,
      total_weight (λ r. eqb r.core c && ltb σ.clock (lapse r)) (λ r. r.parts) k.gone,
      ap weight parts,
      total_kept (λ r. due c d r (credit s.whole (σ.clock + 1) r)) (λ r. ltb (σ.clock + 1) (lapse r)) k.gone (All-weaker (Measured s.whole) _ over k.gone k.measured),
    )
  where
    over : (r : Reservation) → Measured s.whole r → ltb (σ.clock + 1) (lapse r) ≡ false → due c d r (credit s.whole (σ.clock + 1) r) ≡ 0
    over r m e = let none = lapsed s.whole (σ.clock + 1) r m (ltb-false (σ.clock + 1) (lapse r) e) in grind (arith, nat_tests)

due_charge : (w c d : ℕ) (r : Reservation) (named : Bool) → r.core ≡ c → r.deadline ≤ d → named ≡ true → due c d r (cond named (one w) 0) ≡ one w
due_charge w c d r named there near e = grind (arith, nat_tests)

module _ (s : Setup) (law : Lawful s) (σ : System) (b : Basic s σ) (out : σ.out ≡ true) (k : Demand s σ) (c d : ℕ) (core : c < length s.figures) where
  -- What is claimed after the tick is covered.
  abbrev Covered : Type 0
  Covered = owed_by s.whole c d (map (passed σ) σ.live) ≤ held_by s.whole (σ.clock + 1) c d (map (passed σ) σ.live) + credit_by s.whole (σ.clock + 1) c d (lasting σ k.gone)

  -- Of one reservation: its claim and its share before and after the tick, what it is charged, and what the core counts for it.
  abbrev claim_before : Reservation → ℕ
  claim_before r = due c d r (owed s.whole r)

  abbrev claim_after : Reservation → ℕ
  claim_after r = due c d (passed σ r) (owed s.whole (passed σ r))

  abbrev hold_before : Reservation → ℕ
  hold_before r = due c d r (held s.whole σ.clock r)

  abbrev hold_after : Reservation → ℕ
  hold_after r = due c d (passed σ r) (held s.whole (σ.clock + 1) (passed σ r))

  abbrev charge : Reservation → ℕ
  charge r = due c d r (cond (is_named_one σ r) (one s.whole) 0)

  abbrev heavy : Reservation → ℕ
  heavy r = cond (eqb r.core c) (weight r.parts) 0

  found : All (λ r. find r.number σ.live ≡ Some r) σ.live
  found = each_found 0 σ.live b.ascending

  -- The one picked is charged a tick.
  charge_picked : (p : Reservation) → pick c σ.live ≡ Some p → p.deadline ≤ d → one s.whole ≤ total charge σ.live
  charge_picked p picked near =
      let ready = pick_ready c σ.live p picked in
      let there : p.core ≡ c = eqb-true p.core c (and_parts (is_ready p.state) (eqb p.core c) ready).1 in
      let name : get_or σ.names p.core None ≡ Some p.number = ap (λ ns. get_or ns p.core None) (b.dealt out) ∙ ap (λ n. get_or (picks (length s.figures) σ.live) n None) there ∙ get_or_picks (length s.figures) c σ.live core ∙ ap (option_map (λ r. r.number)) picked in
      let named : is_named_one σ p ≡ true = ap (is_name p.number) name ∙ eq-eqb p.number p.number refl in
      omega (arith, due_charge s.whole c d p (is_named_one σ p) there near named, total_found charge p.number p σ.live (pick_found c σ.live p b.ascending picked))

  -- The core is dealt to one due up to d.
  served_core : (p : Reservation) → pick c σ.live ≡ Some p → p.deadline ≤ d → Covered
  served_core p picked near =
      let each : total (λ r. claim_after r + (hold_before r + charge r)) σ.live ≤ total (λ r. claim_before r + (hold_after r + heavy r)) σ.live = total_le _ _ σ.live (All-weaker (λ r. find r.number σ.live ≡ Some r) _ (spending s law σ b out c d) σ.live found) in
      omega (
        arith,
        total_sum claim_after (λ r. hold_before r + charge r) σ.live,
        total_sum hold_before charge σ.live,
        total_sum claim_before (λ r. hold_after r + heavy r) σ.live,
        total_sum hold_after heavy σ.live,
        total_weight (λ r. eqb r.core c) (λ r. r.parts) σ.live,
        total_map (λ r. due c d r (owed s.whole r)) (passed σ) σ.live,
        total_map (λ r. due c d r (held s.whole (σ.clock + 1) r)) (passed σ) σ.live,
        charge_picked p picked near,
        counted_weight s law σ k c,
        credit_tick s σ k c d,
        k.covered c d core,
      )

  -- None that is ready on the core is due up to d.
  idle_core : ((r : Reservation) → find r.number σ.live ≡ Some r → is_ready_on c r ≡ true → d < r.deadline) → Covered
  idle_core later =
      let each : total claim_after σ.live ≤ total hold_after σ.live = total_le _ _ σ.live (All-weaker (λ r. find r.number σ.live ≡ Some r) _ still σ.live found) in
      omega (
        arith,
        total_map (λ r. due c d r (owed s.whole r)) (passed σ) σ.live,
        total_map (λ r. due c d r (held s.whole (σ.clock + 1) r)) (passed σ) σ.live,
      )
    where
      past_d : (r : Reservation) → find r.number σ.live ≡ Some r → is_ready (charged_if σ.names r).state ≡ true → (charged_if σ.names r).core ≡ c → d < (charged_if σ.names r).deadline
      past_d r there = cond_both (is_named_one σ r) (charged r) r (λ x. is_ready x.state ≡ true → x.core ≡ c → d < x.deadline) (λ named _ at. later r there (and_from _ _ (named_ready s σ b out r there named) (eq-eqb r.core c at))) (λ _ ready at. later r there (and_from _ _ ready (eq-eqb r.core c at)))

      still : (r : Reservation) → find r.number σ.live ≡ Some r → claim_after r ≤ hold_after r
      still r there = calm s.whole σ.clock c d (charged_if σ.names r) (measured_charged s.whole σ.names r (measured_by s law σ.clock σ.given r (fair_at s σ b r.number r there))) (past_d r there)

  covered_tick : Covered
  covered_tick = go (pick c σ.live) refl
    where
      go : (o : Option Reservation) → pick c σ.live ≡ o → Covered
      go None e = idle_core λ r found ready. absurd (found_all (λ x. is_ready_on c x ≡ true → ⊥) r.number σ.live r (pick_none c σ.live e) found ready)
      go (Some p) e =
          ⊎_elim
          (λ (far : d < p.deadline). idle_core λ r found ready. let first = found_all (λ x. is_ready_on c x ≡ true → goes_first p x ≡ true) r.number σ.live r (pick_first c σ.live p e) found ready in let sooner : p.deadline ≤ r.deadline = grind (arith, nat_tests) in omega arith)
          (λ (near : p.deadline ≤ d). served_core p e near)
          (cases_lt d p.deadline)

-- The parts that each core counts do not grow.
counted_tick : (σ : System) (c : ℕ) → counted (ticked σ) c ≤ counted σ c
counted_tick σ c =
    omega (
      arith,
      total_map (counted_for c) (passed σ) σ.live,
      total_le (λ r. counted_for c (passed σ r)) (counted_for c) σ.live (λ k d _. same (get_or σ.live k d)),
      total_kept (λ e. cond (eqb e.core c && ltb (σ.clock + 1) e.lapse) e.parts 0) (λ e. ltb (σ.clock + 1) e.lapse) σ.ledger (λ k d _. gone (get_or σ.ledger k d)),
      total_le (λ e. cond (eqb e.core c && ltb (σ.clock + 1) e.lapse) e.parts 0) (λ e. cond (eqb e.core c && ltb σ.clock e.lapse) e.parts 0) σ.ledger (λ k d _. fewer (get_or σ.ledger k d)),
    )
  where
    same : (r : Reservation) → counted_for c (passed σ r) ≤ counted_for c r
    same r =
        let charged-same : counted_for c (charged_if σ.names r) ≡ counted_for c r = cond_both (is_named_one σ r) (charged r) r (λ x. counted_for c x ≡ counted_for c r) (λ _. refl) (λ _. refl) in
        let all_same : counted_for c (passed σ r) ≡ counted_for c r = cond_both (is_due (σ.clock + 1) (charged_if σ.names r)) _ _ (λ x. counted_for c x ≡ counted_for c r) (λ _. charged-same) (λ _. charged-same) in
        le_of_eq all_same

    gone : (e : Entry) → ltb (σ.clock + 1) e.lapse ≡ false → cond (eqb e.core c && ltb (σ.clock + 1) e.lapse) e.parts 0 ≡ 0
    gone e h = grind (arith, nat_tests)

    fewer : (e : Entry) → cond (eqb e.core c && ltb (σ.clock + 1) e.lapse) e.parts 0 ≤ cond (eqb e.core c && ltb σ.clock e.lapse) e.parts 0
    fewer e = grind (arith, nat_tests)

pub settled : (s : Setup) → Lawful s → (σ : System) → Basic s σ → σ.out ≡ true → Demand s σ → Demand s (ticked σ)
settled s law σ b out k = record {
  gone = lasting σ k.gone;
  ledger = ap (filter (λ e. ltb (σ.clock + 1) e.lapse)) k.ledger ∙ kept_map _ entry_of k.gone;
  measured = All-filter _ (Measured s.whole) k.gone k.measured;
  covered = λ c d core. covered_tick s law σ b out k c d core;
  fits = λ c. omega (arith, k.fits c, counted_tick σ c);
}
