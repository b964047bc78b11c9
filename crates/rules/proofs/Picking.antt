-- Whom a core is dealt to: it is live and ready on the core, it goes before every other that is, and no other core names it.
use Rattle.std.proofs.Common.{◌≡◌, ℕ, zero, suc, ◌+◌, ◌<◌, ◌≤◌, Bool, true, false, cond, ◌||◌, eqb, List, [], ◌∷◌, get_or, Some, None, filter, Option, sym, refl, ap, ◌∙◌, subst, ⊎_elim, add-zero, zero-add, arith}
use Rattle.std.specs.Option.{option_map}
use Rattle.std.specs.List.{All}
use Rattle.std.proofs.lemmas.Bool.{eqb-true, and_parts, cond_both, cases_lt}
use Rattle.std.proofs.lemmas.Bool.Decides.{nat_tests}
use Rattle.std.proofs.lemmas.List.Elements.{All-nil, All-cons, All-head, All-tail, All-weaker, All-filter, filter_passes}
use Rattle.std.proofs.lemmas.Option.{none-some, same_Some}
use Rattle.std.proofs.Math.Bool.{or-false}
use Rattle.rules.specs.declared.types.Reservation.{Reservation}
use Rattle.rules.specs.Lists.{find}
use Rattle.rules.specs.Server.{is_ready, is_name}
use Rattle.rules.specs.Dealing.{goes_first, sooner, earliest, is_ready_on, pick, picks_from, picks}
use Rattle.rules.specs.Share.{is_named}
use Rattle.rules.proofs.Finding.{Above, each_found}

first_self : (r : Reservation) → goes_first r r ≡ true
first_self r = grind (arith, nat_tests)

first_other : (r x : Reservation) → goes_first r x ≡ false → goes_first x r ≡ true
first_other r x h = grind (arith, nat_tests)

first_through : (r x y : Reservation) → goes_first r x ≡ true → goes_first x y ≡ true → goes_first r y ≡ true
first_through r x y h k = grind (arith, nat_tests)

-- The earliest is one of the list.
earliest_all : (P : Reservation → Type 0) (xs : List Reservation) (r : Reservation) → All P xs → earliest xs ≡ Some r → P r
earliest_all P [] r a h = cc
earliest_all P (x ∷ xs) r a h = subst P (same_Some _ _ h) (go (earliest xs) (λ y e. earliest_all P xs y (All-tail P x xs a) e))
  where
    go : (o : Option Reservation) → ((y : Reservation) → o ≡ Some y → P y) → P (sooner x o)
    go None f = All-head P x xs a
    go (Some y) f = cond_both (goes_first x y) x y P (λ _. All-head P x xs a) (λ _. f y refl)

-- It goes before each of them.
earliest_first : (xs : List Reservation) (r : Reservation) → earliest xs ≡ Some r → All (λ x. goes_first r x ≡ true) xs
earliest_first [] r h = All-nil (λ x. goes_first r x ≡ true)
earliest_first (x ∷ xs) r h = subst (λ (r : Reservation). All (λ y. goes_first r y ≡ true) (x ∷ xs)) (same_Some _ _ h) (go xs (earliest xs) refl (λ y e. earliest_first xs y e))
  where
    go : (ys : List Reservation) (o : Option Reservation) → earliest ys ≡ o → ((y : Reservation) → o ≡ Some y → All (λ z. goes_first y z ≡ true) ys) → All (λ z. goes_first (sooner x o) z ≡ true) (x ∷ ys)
    go [] None e f = All-cons (λ z. goes_first x z ≡ true) x [] (first_self x) (All-nil (λ z. goes_first x z ≡ true))
    go (z ∷ zs) None e f = cc
    go ys (Some y) e f = by (goes_first x y) refl
      where
        by : (t : Bool) → goes_first x y ≡ t → All (λ z. goes_first (cond t x y) z ≡ true) (x ∷ ys)
        by true k = All-cons (λ z. goes_first x z ≡ true) x ys (first_self x) (All-weaker (λ z. goes_first y z ≡ true) (λ z. goes_first x z ≡ true) (λ z l. first_through x y z k l) ys (f y refl))
        by false k = All-cons (λ z. goes_first y z ≡ true) x ys (first_other x y k) (f y refl)

-- What holds of all that a test keeps holds of each that passes it.
all_passing : (p : Reservation → Bool) (P : Reservation → Type 0) (xs : List Reservation) → All P (filter p xs) → All (λ x. p x ≡ true → P x) xs
all_passing p P [] a = All-nil (λ x. p x ≡ true → P x)
all_passing p P (x ∷ xs) a = go (p x) refl (all_passing p P xs) a
  where
    go : (t : Bool) → p x ≡ t → (All P (filter p xs) → All (λ x. p x ≡ true → P x) xs) → All P (cond t (x ∷ filter p xs) (filter p xs)) → All (λ x. p x ≡ true → P x) (x ∷ xs)
    go true e ih b = All-cons (λ y. p y ≡ true → P y) x xs (λ _. All-head P x (filter p xs) b) (ih (All-tail P x (filter p xs) b))
    go false e ih b = All-cons (λ y. p y ≡ true → P y) x xs (λ k. cc) (ih b)

-- The one picked is live, and ready on the core.
pub pick_found : (c : ℕ) (rs : List Reservation) (r : Reservation) → Above 0 rs → pick c rs ≡ Some r → find r.number rs ≡ Some r
pick_found c rs r a h = earliest_all (λ x. find x.number rs ≡ Some x) (filter (is_ready_on c) rs) r (All-filter (is_ready_on c) (λ x. find x.number rs ≡ Some x) rs (each_found 0 rs a)) h

pub pick_ready : (c : ℕ) (rs : List Reservation) (r : Reservation) → pick c rs ≡ Some r → is_ready_on c r ≡ true
pick_ready c rs r h = earliest_all (λ x. is_ready_on c x ≡ true) (filter (is_ready_on c) rs) r (filter_passes (is_ready_on c) rs) h

-- It goes before each that is ready on the core.
pub pick_first : (c : ℕ) (rs : List Reservation) (r : Reservation) → pick c rs ≡ Some r → All (λ x. is_ready_on c x ≡ true → goes_first r x ≡ true) rs
pick_first c rs r h = all_passing (is_ready_on c) (λ x. goes_first r x ≡ true) rs (earliest_first (filter (is_ready_on c) rs) r h)

-- Where none is picked none is ready on the core.
pub pick_none : (c : ℕ) (rs : List Reservation) → pick c rs ≡ None → All (λ x. is_ready_on c x ≡ true → ⊥) rs
pick_none c rs h = all_passing (is_ready_on c) (λ x. ⊥) rs (go (filter (is_ready_on c) rs) h)
  where
    go : (xs : List Reservation) → earliest xs ≡ None → All (λ x. ⊥) xs
    go [] e = All-nil (λ x. ⊥)
    go (x ∷ xs) e = cc

get_or_picks_from : (c n k : ℕ) (rs : List Reservation) → k < n → get_or (picks_from c n rs) k None ≡ option_map (λ r. r.number) (pick (c + k) rs)
get_or_picks_from c zero k rs h = absurd (omega arith)
get_or_picks_from c (suc n) zero rs h = ap (λ (d : ℕ). option_map (λ r. r.number) (pick d rs)) (sym (add-zero c))
get_or_picks_from c (suc n) (suc k) rs h = get_or_picks_from (suc c) n k rs (omega arith) ∙ ap (λ (d : ℕ). option_map (λ r. r.number) (pick d rs)) (omega arith)

-- The name dealt core c.
pub get_or_picks : (n c : ℕ) (rs : List Reservation) → c < n → get_or (picks n rs) c None ≡ option_map (λ r. r.number) (pick c rs)
get_or_picks n c rs h = get_or_picks_from 0 n c rs h ∙ ap (λ (d : ℕ). option_map (λ r. r.number) (pick d rs)) (zero-add c)

-- A name dealt core c is that of one live and ready on c.
pub name_found : (c n : ℕ) (rs : List Reservation) → Above 0 rs → is_name n (option_map (λ r. r.number) (pick c rs)) ≡ true → (x : Reservation) × (find n rs ≡ Some x) × (is_ready_on c x ≡ true)
name_found c n rs a h = go (pick c rs) refl h
  where
    go : (o : Option Reservation) → pick c rs ≡ o → is_name n (option_map (λ r. r.number) o) ≡ true → (x : Reservation) × (find n rs ≡ Some x) × (is_ready_on c x ≡ true)
    go None e k = cc
    go (Some x) e k = (x, subst (λ (m : ℕ). find m rs ≡ Some x) (eqb-true x.number n k) (pick_found c rs x a e), pick_ready c rs x e)

-- A number that is not live is not named.
pub not_named : (c k n : ℕ) (rs : List Reservation) → Above 0 rs → find n rs ≡ None → is_named n (picks_from c k rs) ≡ false
not_named c zero n rs a h = refl
not_named c (suc k) n rs a h =
    let here : is_name n (option_map (λ r. r.number) (pick c rs)) ≡ true → ⊥ = λ e. none-some _ (sym h ∙ (name_found c n rs a e).1) in
    let later = not_named (suc c) k n rs a h in
    grind arith

module _ (n : ℕ) (x : Reservation) (rs : List Reservation) (a : Above 0 rs) (h : find n rs ≡ Some x) where
  name_core : (c : ℕ) → is_name n (option_map (λ r. r.number) (pick c rs)) ≡ true → x.core ≡ c
  name_core c e =
      let found = name_found c n rs a e in
      let same : found.0 ≡ x = same_Some _ _ (sym found.1 ∙ h) in
      subst (λ (y : Reservation). y.core ≡ c) same (eqb-true _ _ (and_parts (is_ready found.0.state) (eqb found.0.core c) found.2).1)

  named_past : (c k : ℕ) → x.core < c → is_named n (picks_from c k rs) ≡ false
  named_past c zero l = refl
  named_past c (suc k) l =
      let here = name_core c in
      let later = named_past (suc c) k (omega arith) in
      grind arith

  named_from : (c k : ℕ) → c ≤ x.core → x.core < c + k → is_named n (picks_from c k rs) ≡ is_name n (option_map (λ r. r.number) (pick x.core rs))
  named_from c zero l m = absurd (omega arith)
  named_from c (suc k) l m =
      ⊎_elim
      (λ (j : c < x.core). let here = name_core c in let later = named_from (suc c) k j (omega arith) in grind arith)
      (λ (j : x.core ≤ c).
      let same : c ≡ x.core = omega arith in
      let past = named_past (suc c) k (omega arith) in
      ap (λ (t : Bool). is_name n (option_map (λ r. r.number) (pick c rs)) || t) past ∙ or-false (is_name n (option_map (λ r. r.number) (pick c rs))) ∙ ap (λ (d : ℕ). is_name n (option_map (λ r. r.number) (pick d rs))) same)
      (cases_lt c x.core)

  -- A live reservation is named exactly where its core's name is its number.
  pub named_on_core : (k : ℕ) → x.core < k → is_named n (picks k rs) ≡ is_name n (get_or (picks k rs) x.core None)
  named_on_core k l = named_from 0 k (omega arith) (omega arith) ∙ sym (ap (is_name n) (get_or_picks k x.core rs l))

  -- One that its core's name names is ready.
  pub name_ready : (k : ℕ) → x.core < k → is_name n (get_or (picks k rs) x.core None) ≡ true → is_ready x.state ≡ true
  name_ready k l e =
      let found = name_found x.core n rs a (ap (is_name n) (sym (get_or_picks k x.core rs l)) ∙ e) in
      let same : found.0 ≡ x = same_Some _ _ (sym found.1 ∙ h) in
      subst (λ (y : Reservation). is_ready y.state ≡ true) same (and_parts (is_ready found.0.state) (eqb found.0.core x.core) found.2).0
