-- The first reservation with a number, by its place.
use Rattle.std.proofs.Common.{◌≡◌, ℕ, zero, suc, ◌+◌, ◌<◌, ◌≤◌, Bool, cond, eqb, List, [], ◌∷◌, length, get_or, set, take, Some, None, slice_get, Ok, Err, sym, refl, ap, ◌∙◌, inl, inr, not-suc-le-zero, arith}
use Rattle.std.specs.List.{find as first_where, position, position_or_len, remove}
use Rattle.std.specs.Option.{ok_or}
use Rattle.std.proofs.lemmas.Bool.{cases_lt, cond-true, cond-false, lt-ltb, le-ltb}
use Rattle.std.proofs.lemmas.Bool.Decides.{nat_tests}
use Rattle.std.proofs.lemmas.List.Folds.{find_at}
use Rattle.std.proofs.lemmas.Option.{slice_get-get_or, slice_get_past}
use Rattle.terms.specs.declared.refusals.Refusal.{Refusal}
use Rattle.terms.specs.declared.refusals.Refusal.TheVariants.{NoReservation}
use Rattle.rules.specs.declared.types.Reservation.{Reservation}
use Rattle.rules.specs.Lists.{find, change, without}

module _ (n : ℕ) where
  abbrev named : Reservation → Bool
  named r = eqb r.number n

  pub find_is : (rs : List Reservation) → first_where named rs ≡ find n rs
  find_is [] = refl
  find_is (r ∷ rs) = ap (λ o. cond (named r) (Some r) o) (find_is rs)

  -- the row at i, where none of those before it has the number
  pub first_here : (rs : List Reservation) (i : ℕ) (d : Reservation) → i < length rs → find n (take i rs) ≡ None → (get_or rs i d).number ≡ n → Some (get_or rs i d) ≡ find n rs
  first_here [] i d within none is = absurd (not-suc-le-zero within)
  first_here (r ∷ rs) zero d within none is = grind (arith, nat_tests)
  first_here (r ∷ rs) (suc i) d within none is = let h = first_here rs i d in grind (arith, nat_tests)

  pub not_here : (rs : List Reservation) (i : ℕ) (d : Reservation) → i < length rs → find n (take i rs) ≡ None → ((get_or rs i d).number ≡ n → ⊥) → find n (take (i + 1) rs) ≡ None
  not_here [] i d within none other = absurd (not-suc-le-zero within)
  not_here (r ∷ rs) zero d within none other = grind (arith, nat_tests)
  not_here (r ∷ rs) (suc i) d within none other = let h = not_here rs i d in grind (arith, nat_tests)

  change_first : (x : Reservation) (rs : List Reservation) (i : ℕ) → i ≡ position_or_len named rs → i < length rs → change n x rs ≡ set rs i x
  change_first x [] i is within = refl
  change_first x (r ∷ rs) zero is within = grind (arith, nat_tests)
  change_first x (r ∷ rs) (suc i) is within = let h = change_first x rs i in grind (arith, nat_tests)

  without_first : (rs : List Reservation) (i : ℕ) → i ≡ position_or_len named rs → i < length rs → without n rs ≡ remove rs i
  without_first [] i is within = absurd (not-suc-le-zero within)
  without_first (r ∷ rs) zero is within = grind (arith, nat_tests)
  without_first (r ∷ rs) (suc i) is within = let h = without_first rs i in grind (arith, nat_tests)

  without_none : (rs : List Reservation) → length rs ≤ position_or_len named rs → without n rs ≡ rs
  without_none [] none = refl
  without_none (r ∷ rs) none = let h = without_none rs in grind (arith, nat_tests)

  -- the reservation n is at place i
  pub record At (i : ℕ) (rs : List Reservation) : Type 0 where
    pub within : i < length rs
    pub found : (d : Reservation) → find n rs ≡ Some (get_or rs i d)
    pub changes : (x : Reservation) → change n x rs ≡ set rs i x
    pub removes : without n rs ≡ remove rs i

  -- no reservation is n
  pub record Missing (e : Refusal) (rs : List Reservation) : Type 0 where
    pub why : e ≡ NoReservation
    pub none : find n rs ≡ None
    pub stays : without n rs ≡ rs

  found_at : (i : ℕ) (rs : List Reservation) → i ≡ position_or_len named rs → i < length rs → At i rs
  found_at i rs is within = record {
    within = within;
    found = λ d. sym (find_is rs) ∙ find_at named rs ∙ ap (slice_get rs) (sym is) ∙ slice_get-get_or rs i d within;
    changes = λ x. change_first x rs i is within;
    removes = without_first rs i is within;
  }

  missing_at : (e : Refusal) (rs : List Reservation) → e ≡ NoReservation → length rs ≤ position_or_len named rs → Missing e rs
  missing_at e rs why past = record {
    why = why;
    none = sym (find_is rs) ∙ find_at named rs ∙ slice_get_past rs (position_or_len named rs) past;
    stays = without_none rs past;
  }

  place_within : (rs : List Reservation) → position_or_len named rs < length rs → ok_or (position named rs) NoReservation ≡ Ok (position_or_len named rs)
  place_within rs lt =
      ap (λ o. ok_or o NoReservation) (cond-true _ (Some (position_or_len named rs)) None (lt-ltb (position_or_len named rs) (length rs) lt))

  no_place : (rs : List Reservation) → length rs ≤ position_or_len named rs → ok_or (position named rs) NoReservation ≡ Err NoReservation
  no_place rs le =
      ap (λ o. ok_or o NoReservation) (cond-false _ (Some (position_or_len named rs)) None (le-ltb (position_or_len named rs) (length rs) le))

  -- what was answered where the reservation was looked for
  pub found : (i : ℕ) (rs : List Reservation) → Ok i ≡ ok_or (position named rs) NoReservation → At i rs
  found i rs is =
      elim (cases_lt (position_or_len named rs) (length rs)) [ inl lt ↦ (let same : i ≡ position_or_len named rs = cc (place_within rs lt) in found_at i rs same (rw same lt)) | inr le ↦ absurd (cc (no_place rs le)) ]

  pub missing : (e : Refusal) (rs : List Reservation) → Err e ≡ ok_or (position named rs) NoReservation → Missing e rs
  missing e rs is =
      elim (cases_lt (position_or_len named rs) (length rs)) [ inl lt ↦ absurd (cc (place_within rs lt)) | inr le ↦ (let same : e ≡ NoReservation = cc (no_place rs le) in missing_at e rs same le) ]
