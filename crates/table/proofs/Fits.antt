-- That reservations fit, under the changes of a table.
use Rattle.std.proofs.Common.{◌≡◌, ℕ, suc, ◌+◌, ◌<◌, ◌≤◌, true, List, map, length, get_or, take, drop, None, Option, arith}
use Rattle.std.specs.List.{AllPass, remove}
use Rattle.std.proofs.lemmas.Bool.{cond_both}
use Rattle.std.proofs.lemmas.Bool.Decides.{nat_tests}
use Rattle.std.proofs.lemmas.List.Elements.{All-append, All-drop, All-map, All-take, All-weaker}
use Rattle.rules.specs.declared.types.Reservation.{Reservation}
use Rattle.rules.specs.Server.{is_name, is_due, on_core, refilled, charged_if}
use Rattle.table.specs.Calls.{newcomer, ticked}
use Rattle.table.specs.Rows.{fit}

pub fit_core : (t : ℕ) (r : Reservation) → fit t r ≡ true → r.core < 8
fit_core t r h = grind (arith, nat_tests)

fit_later : (t : ℕ) (r : Reservation) → fit t r ≡ true → fit (t + 1) r ≡ true
fit_later t r h = grind (arith, nat_tests)

fit_refilled : (t : ℕ) (r : Reservation) → fit t r ≡ true → fit t (refilled t r) ≡ true
fit_refilled t r h =
    cond_both (is_due t r) _ _ (λ x. fit t x ≡ true) (λ due. grind (arith, nat_tests)) (λ _. h)

-- one that fits before the tick t fits after it
fit_ticked : (names : List (Option ℕ)) (t : ℕ) (r : Reservation) → fit t r ≡ true → fit (t + 1) (ticked names (t + 1) r) ≡ true
fit_ticked names t r h =
    let c : fit (t + 1) (charged_if names r) ≡ true = cond_both (is_name r.number (get_or names r.core None)) _ _ (λ x. fit (t + 1) x ≡ true) (λ _. grind (arith, nat_tests)) (λ _. fit_later t r h) in
    fit_refilled (t + 1) (charged_if names r) c

pub fit_newcomer : (t number q p parts core : ℕ) → 1 ≤ q → q ≤ p → p ≤ 1000000 → core < 8 → fit t (newcomer t number q p parts core) ≡ true
fit_newcomer t number q p parts core low high longest lt = grind (arith, nat_tests)

module _ (t : ℕ) (rs : List Reservation) (all : AllPass (fit t) rs) where
  module _ (i : ℕ) (d : Reservation) (within : i < length rs) where
    pub core_at : (get_or rs i d).core < 8
    core_at = fit_core t (get_or rs i d) (all i d within)

    pub fit_moved : (core : ℕ) → core < 8 → fit t (on_core (get_or rs i d) core) ≡ true
    fit_moved core lt = let h = all i d within in grind (arith, nat_tests)

  pub all_removed : (i : ℕ) → AllPass (fit t) (remove rs i)
  all_removed i =
      All-append (λ r. fit t r ≡ true) (take i rs) (drop (suc i) rs) (All-take (λ r. fit t r ≡ true) i rs all) (All-drop (λ r. fit t r ≡ true) (suc i) rs all)

  pub all_ticked : (names : List (Option ℕ)) → AllPass (fit (t + 1)) (map (ticked names (t + 1)) rs)
  all_ticked names =
      All-map (λ r. fit (t + 1) r ≡ true) (ticked names (t + 1)) rs
      (All-weaker (λ r. fit t r ≡ true) (λ r. fit (t + 1) (ticked names (t + 1) r) ≡ true) (fit_ticked names t) rs all)
