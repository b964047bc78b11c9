-- What a loop over a plan's events keeps.
use Rattle.std.proofs.Common.{◌≡◌, ℕ, suc, ◌+◌, ◌-◌, ◌*◌, ◌/◌, ◌<◌, ◌≤◌, Bool, true, false, cond, List, [], ◌∷◌, ◌++◌, length, drop, Some, None, Ok, Err, Result, sym, refl, ap, ◌∙◌, subst, ⊎_elim, append_assoc, arith, length-drop}
use Rattle.std.proofs.lemmas.List.{length_push}
use Rattle.std.proofs.lemmas.Bool.{cases_lt}
use Rattle.fault.specs.declared.Spot.{Spot}
use Rattle.plan.specs.Bits.{spot_of, then, given}
use Rattle.fault.specs.Faults.{Fault, trailing}
use Rattle.plan.specs.Records.{Row, front_of, event_of}
use Rattle.plan.specs.Plans.{Reader, is_end, placed, step_of, after_spot, events_of, next_spot, next_of, passed, after_of}
use Rattle.plan.proofs.Fields.{field_cut}

never_some : {A B : Type 0} (r : Result A Fault) (e : Fault) (x : B) → Ok x ≡ then r (λ _. Err e) → ⊥
never_some (Ok y) e x h = cc
never_some (Err y) e x h = cc

-- An event that was read has its eight bytes.
event_long : (bs : List ℕ) (o : Spot) (e : Row) → Ok e ≡ event_of bs o → 8 ≤ length bs
event_long bs o e h =
    ⊎_elim
    (λ less. let cut = field_cut bs o 44 20 (omega arith) in absurd (never_some (front_of bs o) _ e (simp cut at h)))
    (λ enough. enough)
    (cases_lt (length bs) 8)

given_some : (b : Bool) (f : Fault) (x e : Row) → Ok e ≡ given b f (Ok x) → ◌≡◌ {A = Result Row Fault} (Ok e) (Ok x)
given_some true f x e h = h
given_some false f x e h = cc

tested_some : (r : Result Row Fault) (t : Row → Bool) (f : Fault) (e : Row) → Ok e ≡ then r (λ x. given (t x) f (Ok x)) → Ok e ≡ r
tested_some (Ok x) t f e h = given_some (t x) f x e h
tested_some (Err x) t f e h = cc

step_long : (bs : List ℕ) (o : Spot) (e : Row) → Ok e ≡ step_of bs o → 8 ≤ length bs
unfolding step_of
step_long bs o e h = event_long bs o e (tested_some (event_of bs o) (λ x. placed x.kind (length bs)) (trailing (spot_of o 64)) e h)

-- What a reader's answer says of it.
asked_some : (b : Bool) (r : Result Row Fault) (e : Row) → Ok (Some e) ≡ cond b (Ok None) (then r (λ x. Ok (Some x))) → (b ≡ false) × (Ok e ≡ r)
asked_some true r e h = cc
asked_some false (Ok x) e h = (refl, cc)
asked_some false (Err x) e h = cc

asked_fault : (b : Bool) (r : Result Row Fault) (e : Fault) → Err e ≡ cond b (Ok None) (then r (λ x. Ok (Some x))) → (b ≡ false) × (Err e ≡ r)
asked_fault true r e h = cc
asked_fault false (Ok x) e h = cc
asked_fault false (Err x) e h = (refl, cc)

-- The reader has read k events.
abbrev pub Counts : Reader → ℕ → Type 0
Counts s k = s.total ≡ s.first + 8 * k + length s.rest

spot_at : (s : Reader) (k : ℕ) → Counts s k → next_spot s ≡ record { byte = s.first + 8 * k; number = k + 1 }
spot_at s k h =
    let byte : s.total - length s.rest ≡ s.first + 8 * k = omega arith in
    let number : (s.total - length s.rest - s.first) / 8 + 1 ≡ k + 1 = omega arith in
    λ i. record { byte = byte i; number = number i }

-- What a reader has still to give, with n more than there can be records.
abbrev pub left : ℕ → Reader → Result (List Row) Fault
left n s = cond s.ended (Ok []) (events_of n s.rest (next_spot s))

-- The events that were read, with those that are left, are the whole.
pub record Sofar (whole : Result (List Row) Fault) (s : Reader) (read : List Row) : Type 0 where
  pub counts : Counts s (length read)
  pub goes : then (left (suc s.total - length read) s) (λ es. Ok (read ++ es)) ≡ whole

module _ (bs : List ℕ) (o : Spot) (n : ℕ) where
  events_fault : (e : Fault) → Err e ≡ step_of bs o → events_of (suc n) bs o ≡ Err e
  unfolding events_of
  events_fault e h = rw (← h)

  events_more : (e : Row) → Ok e ≡ step_of bs o → events_of (suc n) bs o ≡ cond (is_end e.kind) (Ok (e ∷ [])) (then (events_of n (drop 8 bs) (after_spot o)) (λ es. Ok (e ∷ es)))
  unfolding events_of
  events_more e h = rw (← h)

then_cond : (b : Bool) (r : Result (List Row) Fault) (e : Row) → cond b (Ok (e ∷ [])) (then r (λ es. Ok (e ∷ es))) ≡ then (cond b (Ok []) r) (λ es. Ok (e ∷ es))
then_cond true r e = refl
then_cond false r e = refl

then_push : (r : Result (List Row) Fault) (read : List Row) (e : Row) → then (then r (λ es. Ok (e ∷ es))) (λ es. Ok (read ++ es)) ≡ then r (λ es. Ok ((read ++ e ∷ []) ++ es))
then_push (Ok es) read e = ap Ok (sym (append_assoc read (e ∷ []) es))
then_push (Err x) read e = refl

-- The reader after the event e.
abbrev past : Reader → Row → Reader
past s e = passed s (Ok e)

counts_more : (s : Reader) (k : ℕ) (e : Row) → Counts s k → 8 ≤ length s.rest → Counts (past s e) (k + 1)
counts_more s k e h long = omega (arith, length-drop 8 s.rest)

left_more : (s : Reader) (k n : ℕ) (e : Row) → Counts s k → Ok e ≡ step_of s.rest (next_spot s) → events_of (suc n) s.rest (next_spot s) ≡ then (left n (past s e)) (λ es. Ok (e ∷ es))
left_more s k n e h step =
    let more = counts_more s k e h (step_long _ _ e step) in
    let byte : s.first + 8 * k + 8 ≡ s.first + 8 * (k + 1) = omega arith in
    let on : after_spot (next_spot s) ≡ next_spot (past s e) = ap after_spot (spot_at s k h) ∙ (λ i. record { byte = byte i; number = k + 1 + 1 }) ∙ sym (spot_at (past s e) (k + 1) more) in
    events_more _ _ n e step ∙ ap (λ o. cond (is_end e.kind) (Ok (e ∷ [])) (then (events_of n (drop 8 s.rest) o) (λ es. Ok (e ∷ es)))) on ∙ then_cond (is_end e.kind) _ e

module _ {whole : Result (List Row) Fault} {s : Reader} {read : List Row} (h : Sofar whole s read) where
  fuel : suc s.total - length read ≡ suc (s.total - length read)
  fuel = omega (arith, h.counts)

  pub sofar_fault : (e : Fault) → Err e ≡ next_of s → Err e ≡ whole
  sofar_fault e a =
      let p = asked_fault s.ended _ e a in
      rw (p.0, fuel, events_fault _ _ _ e p.1) at h.goes

  -- The measure falls, and the rest of the loop goes on.
  pub sofar_less : (e : Row) → Ok (Some e) ≡ next_of s → length (after_of s).rest < length s.rest
  sofar_less e a =
      let p = asked_some s.ended _ e a in
      let long = step_long _ _ e p.1 in
      rw (p.0, ← p.1) (omega (arith, length-drop 8 s.rest))

  pub sofar_more : (e : Row) → Ok (Some e) ≡ next_of s → Sofar whole (after_of s) (read ++ e ∷ [])
  sofar_more e a =
      let p = asked_some s.ended _ e a in
      let k = length read in
      let more = counts_more s k e h.counts (step_long _ _ e p.1) in
      let long = length_push read e in
      let less : suc s.total - length (read ++ e ∷ []) ≡ s.total - k = omega arith in
      let goes : then (left (s.total - k) (past s e)) (λ es. Ok ((read ++ e ∷ []) ++ es)) ≡ whole = sym (then_push _ read e) ∙ (rw (p.0, fuel, left_more s k _ e h.counts p.1) at h.goes) in
      rw (p.0, ← p.1) (record { counts = rw long more; goes = rw less goes })

pub sofar_at : {whole : Result (List Row) Fault} {s t : Reader} {xs ys : List Row} → s ≡ t → xs ≡ ys → Sofar whole t ys → Sofar whole s xs
sofar_at {whole} {s} {t} {xs} {ys} p q h = subst (λ r. Sofar whole r xs) (sym p) (subst (λ l. Sofar whole t l) (sym q) h)
