-- A live reservation runs at most its share: since a filling its runs × period are covered by what budget × deadline − left × period has
-- risen, and the deadline is at most a period ahead.
use Rattle.std.proofs.Common.{◌≡◌, ℕ, ◌+◌, ◌-◌, ◌*◌, ◌/◌, ◌<◌, ◌≤◌, Bool, true, false, cond, ◌&&◌, ◌⊎◌, List, [], ◌∷◌, is_some, Some, None, Option, sym, refl, ap, ◌∙◌, subst, subst₂, inl, inr, add-zero, add_assoc, mul-le-mul_left, le-div_iff_mul-le, zero-add, arith}
use Rattle.std.proofs.lemmas.Bool.{ltb-false, and_parts, cond_both, cases_lt}
use Rattle.std.proofs.lemmas.Option.{none-some, same_Some}
use Rattle.rules.specs.declared.types.Reservation.{Reservation}
use Rattle.rules.specs.declared.types.Call.{Call}
use Rattle.rules.specs.Lists.{find}
use Rattle.rules.specs.Setup.{Setup}
use Rattle.rules.specs.System.{System}
use Rattle.rules.specs.Server.{is_spent, keeps, woken, filled_to, charged, is_due, refilled}
use Rattle.rules.specs.Replay.{next, accepts, after, replay}
use Rattle.rules.specs.Share.{is_settle, is_named, ticks, runs, Filling, since, Lawful}
use Rattle.rules.proofs.Basics.{Basic, Fair, limited, fair_at, fair_run, basic, basic_next, basic_after}
use Rattle.rules.proofs.Turns.{Turn, turn, by_turn, turn_gone}
use Rattle.rules.proofs.Absences.{gone_after}
use Rattle.rules.proofs.Counts.{clock_after}
use Rattle.rules.proofs.Fillings.{Filled, filled_since}

-- x, of terms q in p, has run k ticks since the tick t, and these are paid for.
record Paid (q p t k : ℕ) (x : Reservation) : Type 0 where
  budget : x.budget ≡ q
  period : x.period ≡ p
  paid : k * p + q * t + x.left * p ≤ q * x.deadline

filled_pays : (a p q now left d : ℕ) → (d - now) * q ≤ left * p → a + left * p ≤ q * d → a ≤ q * now
filled_pays a p q now left d h paid = go (cases_lt now d)
  where
    ahead : (z : ℕ) → d ≡ now + z → z * q ≤ left * p → a ≤ q * now
    ahead z e l = omega (arith, ap (λ (m : ℕ). q * m) e)

    go : (now < d) ⊎ (d ≤ now) → a ≤ q * now
    go (inl l) = ahead (d - now) (omega arith) h
    go (inr l) = omega (arith, mul-le-mul_left q l)

run_pays : (k p b left : ℕ) → 1 ≤ left → (k + 1) * p + b + (left - 1) * p ≡ k * p + b + left * p
run_pays k p b left h = go (left - 1) (omega arith)
  where
    go : (z : ℕ) → left ≡ z + 1 → (k + 1) * p + b + z * p ≡ k * p + b + left * p
    go z e = omega (arith, ap (λ (m : ℕ). m * p) e)

module _ (q p t k : ℕ) where
  paid_filled : (now : ℕ) → k * p + q * t ≤ q * now → (y : Reservation) → y.budget ≡ q → y.period ≡ p → Paid q p t k (filled_to (now + y.period) y)
  paid_filled now h y budget period = record { budget = budget; period = period; paid = omega (arith, ap (λ (m : ℕ). m * p) budget, ap (λ (m : ℕ). q * m) period) }

  paid_woken : (now : ℕ) (x : Reservation) → Paid q p t k x → Paid q p t k (woken now x)
  paid_woken now x i =
      cond_both (keeps now x) _ _ (Paid q p t k) (λ _. record { budget = i.budget; period = i.period; paid = i.paid })
      (λ e. paid_filled now (filled_pays (k * p + q * t) p q now x.left x.deadline (subst₂ (λ (b m : ℕ). (x.deadline - now) * b ≤ x.left * m) i.budget i.period (ltb-false _ _ e)) i.paid) x i.budget i.period)

  paid_refilled : (now : ℕ) (y : Reservation) → (is_spent y.state ≡ true → y.left ≡ 0) → Paid q p t k y → Paid q p t k (refilled now y)
  paid_refilled now y spent i =
      cond_both (is_due now y) _ _ (Paid q p t k)
      (λ e. let none = spent (and_parts _ _ e).0 in paid_filled y.deadline (let l = i.paid in omega arith) y i.budget i.period)
      (λ _. i)

paid_run : (q p t k : ℕ) (x : Reservation) (run : Bool) → (run ≡ true → 1 ≤ x.left) → Paid q p t k x → Paid q p t (k + cond run 1 0) (cond run (charged x) x)
paid_run q p t k x true some i = record { budget = i.budget; period = i.period; paid = let e = run_pays k p (q * t) x.left (some refl) in let l = i.paid in omega arith }
paid_run q p t k x false some i = subst (λ (m : ℕ). Paid q p t m x) (sym (add-zero k)) i

-- Each turn keeps it.
turn_paid : (s : Setup) (σ : System) (n : ℕ) (x : Reservation) → Fair s σ.clock σ.given x → (q p t k : ℕ) → Paid q p t k x → (stop tick run : Bool) (σ' : System) → Turn n σ x stop tick run σ' → (y : Reservation) → find n σ'.live ≡ Some y → Paid q p t (k + cond run 1 0) y
turn_paid s σ n x f q p t k i =
    by_turn n σ x (λ run y. Paid q p t (k + cond run 1 0) y)
    (none_run x i)
    (λ _. none_run _ (paid_woken q p t k σ.clock x i))
    (none_run _ (record { budget = i.budget; period = i.period; paid = i.paid }))
    (λ core. none_run _ (record { budget = i.budget; period = i.period; paid = i.paid }))
    (λ run ready. paid_refilled q p t (k + cond run 1 0) (σ.clock + 1) (cond run (charged x) x) (fair_run s σ.clock σ.given x f run).spent (paid_run q p t k x run (λ e. f.ready (ready e)) i))
  where
    none_run : (y : Reservation) → Paid q p t k y → Paid q p t (k + 0) y
    none_run y j = subst (λ (m : ℕ). Paid q p t m y) (sym (add-zero k)) j

paid_after : (s : Setup) → Lawful s → (σ : System) → Basic s σ → (n : ℕ) (x : Reservation) → find n σ.live ≡ Some x → (q p t k : ℕ) → Paid q p t k x → (cs : List Call) (r : Reservation) → find n (after s σ cs).live ≡ Some r → Paid q p t (k + runs s n σ cs) r
paid_after s law σ b n x live q p t k i [] r h = subst₂ (λ (m : ℕ) (y : Reservation). Paid q p t m y) (sym (add-zero k)) (same_Some _ _ (sym live ∙ h)) i
paid_after s law σ b n x live q p t k i (c ∷ cs) r h = go (find n (next s σ c).live) refl (λ y e j. paid_after s law (next s σ c) (basic_next s law σ c b) n y e q p t (k + ran) j cs r h)
  where
    ran : ℕ
    ran = cond (is_settle c && accepts s σ c && is_named n σ.names) 1 0

    go : (o : Option Reservation) → find n (next s σ c).live ≡ o → ((y : Reservation) → find n (next s σ c).live ≡ Some y → Paid q p t (k + ran) y → Paid q p t (k + ran + runs s n (next s σ c) cs) r) → Paid q p t (k + runs s n σ (c ∷ cs)) r
    go None e ih = absurd (none-some _ (sym (gone_after s law (next s σ c) (basic_next s law σ c b) n (turn_gone n σ x _ _ _ _ (turn s σ b n x live c) e) e cs) ∙ h))
    go (Some y) e ih = subst (λ (m : ℕ). Paid q p t m r) (add_assoc k ran (runs s n (next s σ c) cs)) (ih y e (turn_paid s σ n x (fair_at s σ b n x live) q p t k i _ _ _ _ (turn s σ b n x live c) y e))

most_ran : (p q t k m left d : ℕ) → 1 ≤ p → k * p + q * t + left * p ≤ q * d → d ≤ t + m + p → k ≤ q * (m + p) / p
most_ran p q t k m left d low paid due = (le-div_iff_mul-le low).1 (omega (arith, mul-le-mul_left q due))

-- So many ticks after a filling, still live, it has run at most its share of them and of a period more.
pub most_law : (s : Setup) → Lawful s → (past : List Call) (c : Call) (n q p : ℕ) (later : List Call) → Filling s (replay s past) c n q p → is_some (find n (after s (since s past c) later).live) ≡ true → runs s n (since s past c) later ≤ q * (ticks s (since s past c) later + p) / p
most_law s law past c n q p later f h = go (find n (after s σ later).live) refl h
  where
    σ : System
    σ = since s past c

    b : Basic s σ
    b = basic_next s law (replay s past) c (basic s law past)

    x : Filled σ n q p
    x = filled_since s (replay s past) c n q p f

    paid : Paid q p σ.clock 0 x.of
    paid = record { budget = x.budget; period = x.period; paid = omega (arith, ap (λ (m : ℕ). m * p) x.whole, ap (λ (m : ℕ). q * m) x.due) }

    go : (o : Option Reservation) → find n (after s σ later).live ≡ o → is_some o ≡ true → runs s n σ later ≤ q * (ticks s σ later + p) / p
    go None e k = cc
    go (Some r) e k =
        let i = paid_after s law σ b n x.of x.live q p σ.clock 0 paid later r e in
        let fair = fair_at s (after s σ later) (basic_after s law σ later b) n r e in
        let terms = limited r.budget r.period fair.limits in
        let due = fair.due in
        let period = i.period in
        let clock = clock_after s σ later in
        most_ran p q σ.clock (runs s n σ later) (ticks s σ later) r.left r.deadline (let low = terms.budget_low in let high = terms.budget_high in omega arith) (subst (λ (m : ℕ). m * p + q * σ.clock + r.left * p ≤ q * r.deadline) (zero-add (runs s n σ later)) i.paid) (omega arith)
