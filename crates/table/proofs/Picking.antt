-- The first of a core's ready keys is that of the reservation that the core is dealt to.
use Rattle.std.proofs.Common.{◌≡◌, ℕ, zero, suc, ◌+◌, ◌-◌, ◌<◌, ◌≤◌, ltb, cond, min, List, [], ◌∷◌, ◌++◌, map, length, get_or, replicate, Some, None, Option, refl, ap, ◌∙◌, subst, inl, inr, add-one, arith}
use Rattle.std.specs.Option.{option_map}
use Rattle.std.specs.List.{filter, range_with_len}
use Rattle.std.specs.Array.{IsFromFnResult, IsFromFnResultFrom}
use Rattle.std.specs.Fn.{Called}
use denote.Param.Members.{Mut}
use Rattle.std.proofs.lemmas.Bool.{cases_lt, cond-true, cond-false, lt-ltb, le-ltb}
use Rattle.std.proofs.lemmas.List.FromFn.{fill_by_all}
use Rattle.calendar.specs.Queues.{queue, first}
use Rattle.rules.specs.declared.types.Reservation.{Reservation}
use Rattle.rules.specs.Dealing.{sooner, earliest, is_ready_on, pick, picks_from}
use Rattle.table.specs.Keys.{ready_keys}
use Rattle.table.specs.Order.{ahead, key_of, no_later}
use Rattle.table.specs.Calls.{dealt}
use Rattle.table.proofs.Waiting.{first_filed}

ahead_sooner : (r : Reservation) (o : Option Reservation) → ahead (key_of r) (option_map key_of o) ≡ key_of (sooner r o)
ahead_sooner r None = refl
ahead_sooner r (Some x) = grind arith

first_queue : (rs : List Reservation) → first (queue no_later (map key_of rs)) ≡ option_map key_of (earliest rs)
first_queue [] = refl
first_queue (r ∷ rs) =
    first_filed (key_of r) (queue no_later (map key_of rs))
    ∙ ap (λ o. Some (ahead (key_of r) o)) (first_queue rs)
    ∙ ap Some (ahead_sooner r (earliest rs))

number_key : (o : Option Reservation) → option_map (λ k. k.number) (option_map key_of o) ≡ option_map (λ r. r.number) o
number_key None = refl
number_key (Some r) = refl

-- the number of the first of a core's ready keys
pub first_number : (c : ℕ) (rs : List Reservation) → option_map (λ k. k.number) (first (ready_keys c rs)) ≡ option_map (λ r. r.number) (pick c rs)
unfolding ready_keys
first_number c rs =
    ap (option_map (λ k. k.number)) (first_queue (filter (is_ready_on c) rs)) ∙ number_key (pick c rs)

pub length_picks : (rs : List Reservation) (n c : ℕ) → length (picks_from c n rs) ≡ n
length_picks rs zero c = refl
length_picks rs (suc n) c = ap suc (length_picks rs n (suc c))

-- the names of the n = m + r cores from c on: the picks of the first m, and none for the rest
module _ (cores : ℕ) (rs : List Reservation) where
  abbrev pub named : ℕ → Option ℕ
  named k = cond (ltb k cores) (option_map (λ r. r.number) (pick k rs)) None

  names_from : (c n m r : ℕ) → n ≡ m + r → (0 < m → c + m ≤ cores) → (0 < r → cores ≤ c + m) → map named (range_with_len c n) ≡ picks_from c m rs ++ replicate r None
  names_from c zero zero zero is low high = refl
  names_from c zero zero (suc r) is low high = absurd (omega arith)
  names_from c zero (suc m) r is low high = absurd (omega arith)
  names_from c (suc n) zero zero is low high = absurd (omega arith)
  names_from c (suc n) zero (suc r) is low high =
      let none : named c ≡ None = cond-false (ltb c cores) _ None (le-ltb c cores (omega (arith, high (omega arith)))) in
      ap (λ x. x ∷ map named (range_with_len (c + 1) n)) none
      ∙ ap (λ xs. None ∷ xs) (names_from (c + 1) n zero r (omega arith) (λ h. absurd (omega arith)) (λ h. omega (arith, high (omega arith))))
  names_from c (suc n) (suc m) r is low high =
      let some : named c ≡ option_map (λ x. x.number) (pick c rs) = cond-true (ltb c cores) _ None (lt-ltb c cores (omega (arith, low (omega arith)))) in
      ap (λ x. x ∷ map named (range_with_len (c + 1) n)) some
      ∙ ap (λ k. option_map (λ x. x.number) (pick c rs) ∷ map named (range_with_len k n)) (add-one c)
      ∙ ap (λ xs. option_map (λ x. x.number) (pick c rs) ∷ xs) (names_from (suc c) n m r (omega arith) (λ h. omega (arith, low (omega arith))) (λ h. omega (arith, high h)))

  pub names_dealt : map named (range_with_len 0 8) ≡ dealt cores rs
  names_dealt = names_from 0 8 (min cores 8) (8 - min cores 8) (omega arith) (λ h. omega arith) (λ h. omega arith)

-- a closure that stays as it is and answers h of each place makes the list of them
module _ {F B : Type 0} (g : Mut F (ℕ × Unit {0}) B) (f : F) (h : ℕ → B) (says : (i : ℕ) (y : B) (q : F) → Called g f (i, tt) y q → (q ≡ f) × (y ≡ h i)) where
  each : (ys : List B) (i n : ℕ) → IsFromFnResultFrom g f ys i n → (k : ℕ) (d : B) → i ≤ k → k < i + n → get_or ys k d ≡ h k
  each ys i zero made k d low high = absurd (omega arith)
  each ys i (suc n) made k d low high =
      let said = says i made.1 made.0 made.3 in
      elim (cases_lt i k) [ inl lt ↦ each ys (i + 1) n (subst (λ p. IsFromFnResultFrom g p ys (i + 1) n) said.0 made.4) k d (omega arith) (omega arith) | inr le ↦ (let same : k ≡ i = omega arith in rw same (made.2.1 d ∙ said.1)) ]

  pub made_by : (ys : List B) (n : ℕ) (d : B) → IsFromFnResult g f ys n → ys ≡ map h (range_with_len 0 n)
  made_by ys n d made = fill_by_all h ys n d made.long (λ k lt. each ys 0 n made.each k d (omega arith) (omega arith))
