-- What is found by its number in a list of reservations, and what changes of the list leave of it.
use Rattle.std.proofs.Common.{◌≡◌, ℕ, ◌<◌, ◌≤◌, Bool, true, false, cond, eqb, List, [], ◌∷◌, ◌++◌, get_or, map, Some, None, sym, refl, ◌∙◌, subst, arith}
use Rattle.std.specs.Option.{option_map}
use Rattle.std.specs.List.{All}
use Rattle.std.proofs.lemmas.Bool.{eqb-true, cond_both}
use Rattle.std.proofs.lemmas.Bool.Decides.{nat_tests}
use Rattle.std.proofs.lemmas.List.Elements.{All-nil, All-cons, All-head, All-tail}
use Rattle.std.proofs.lemmas.Option.{same_Some}
use Rattle.rules.specs.declared.types.Reservation.{Reservation}
use Rattle.rules.specs.Lists.{find, change, without}

-- The numbers in the list are above k and ascend.
abbrev pub Above : ℕ → List Reservation → Type 0
Above k [] = Unit {0}
Above k (r ∷ rs) = (k < r.number) × Above r.number rs

pub found_number : (n : ℕ) (rs : List Reservation) (r : Reservation) → find n rs ≡ Some r → r.number ≡ n
found_number n [] r h = cc
found_number n (x ∷ xs) r h = let ih = found_number n xs r in grind (arith, nat_tests)

-- What holds of all holds of the one found.
pub found_all : (P : Reservation → Type 0) (n : ℕ) (rs : List Reservation) (r : Reservation) → All P rs → find n rs ≡ Some r → P r
found_all P n [] r a h = cc
found_all P n (x ∷ xs) r a h = go (eqb x.number n) (found_all P n xs r (All-tail P x xs a)) h
  where
    go : (t : Bool) → (find n xs ≡ Some r → P r) → cond t (Some x) (find n xs) ≡ Some r → P r
    go true ih k = subst P (same_Some _ _ k) (All-head P x xs a)
    go false ih k = ih k

pub found_above : (k n : ℕ) (rs : List Reservation) (r : Reservation) → Above k rs → find n rs ≡ Some r → k < n
found_above k n [] r a h = cc
found_above k n (x ∷ xs) r a h = let ih = found_above x.number n xs r a.1 in let l = a.0 in grind (arith, nat_tests)

-- Below all the numbers none is found.
pub not_found_below : (k n : ℕ) (rs : List Reservation) → Above k rs → n ≤ k → find n rs ≡ None
not_found_below k n [] a l = refl
not_found_below k n (x ∷ xs) a l = let h = a.0 in let ih = not_found_below x.number n xs a.1 (omega arith) in grind (arith, nat_tests)

pub find_change_same : (n : ℕ) (r x : Reservation) (rs : List Reservation) → r.number ≡ n → find n rs ≡ Some x → find n (change n r rs) ≡ Some r
find_change_same n r x [] e h = cc
find_change_same n r x (y ∷ ys) e h = let ih = find_change_same n r x ys e in grind (arith, nat_tests)

pub find_change_other : (m n : ℕ) (r : Reservation) (rs : List Reservation) → r.number ≡ n → (m ≡ n → ⊥) → find m (change n r rs) ≡ find m rs
find_change_other m n r [] e d = refl
find_change_other m n r (y ∷ ys) e d = let ih = find_change_other m n r ys e d in grind (arith, nat_tests)

pub find_without_same : (k n : ℕ) (rs : List Reservation) → Above k rs → find n (without n rs) ≡ None
find_without_same k n [] a = refl
find_without_same k n (y ∷ ys) a = let ih = find_without_same y.number n ys a.1 in let none = not_found_below y.number n ys a.1 in grind (arith, nat_tests)

pub find_without_other : (m n : ℕ) (rs : List Reservation) → (m ≡ n → ⊥) → find m (without n rs) ≡ find m rs
find_without_other m n [] d = refl
find_without_other m n (y ∷ ys) d = let ih = find_without_other m n ys d in grind (arith, nat_tests)

-- One more at the end, under another number.
pub find_push_other : (m : ℕ) (rs : List Reservation) (r : Reservation) → (m ≡ r.number → ⊥) → find m (rs ++ r ∷ []) ≡ find m rs
find_push_other m [] r d = grind (arith, nat_tests)
find_push_other m (y ∷ ys) r d = let ih = find_push_other m ys r d in grind (arith, nat_tests)

pub find_push_same : (rs : List Reservation) (r : Reservation) → find r.number rs ≡ None → find r.number (rs ++ r ∷ []) ≡ Some r
find_push_same [] r h = grind (arith, nat_tests)
find_push_same (y ∷ ys) r h = let ih = find_push_same ys r in grind (arith, nat_tests)

pub find_map : (f : Reservation → Reservation) → ((x : Reservation) → (f x).number ≡ x.number) → (n : ℕ) (rs : List Reservation) → find n (map f rs) ≡ option_map f (find n rs)
find_map f same n [] = refl
find_map f same n (y ∷ ys) = let ih = find_map f same n ys in let e = same y in grind (arith, nat_tests)

pub all_change : (P : Reservation → Type 0) (n : ℕ) (r : Reservation) (rs : List Reservation) → P r → All P rs → All P (change n r rs)
all_change P n r [] p a = a
all_change P n r (y ∷ ys) p a =
    cond_both (eqb y.number n) _ _ (All P)
    (λ _. All-cons P r ys p (All-tail P y ys a))
    (λ _. All-cons P y (change n r ys) (All-head P y ys a) (all_change P n r ys p (All-tail P y ys a)))

pub all_without : (P : Reservation → Type 0) (n : ℕ) (rs : List Reservation) → All P rs → All P (without n rs)
all_without P n [] a = a
all_without P n (y ∷ ys) a =
    cond_both (eqb y.number n) _ _ (All P)
    (λ _. All-tail P y ys a)
    (λ _. All-cons P y (without n ys) (All-head P y ys a) (all_without P n ys (All-tail P y ys a)))

pub above_weaker : (j k : ℕ) (rs : List Reservation) → j ≤ k → Above k rs → Above j rs
above_weaker j k [] l a = tt
above_weaker j k (y ∷ ys) l a = let h = a.0 in (omega arith, a.1)

pub above_change : (k n : ℕ) (r : Reservation) (rs : List Reservation) → r.number ≡ n → Above k rs → Above k (change n r rs)
above_change k n r [] e a = tt
above_change k n r (y ∷ ys) e a = go (eqb y.number n) refl (above_change y.number n r ys e a.1)
  where
    go : (t : Bool) → eqb y.number n ≡ t → Above y.number (change n r ys) → Above k (cond t (r ∷ ys) (y ∷ change n r ys))
    go true h ih =
        let same : y.number ≡ r.number = eqb-true _ _ h ∙ sym e in
        let l = a.0 in
        (omega arith, subst (λ (m : ℕ). Above m ys) same a.1)
    go false h ih = (a.0, ih)

pub above_without : (k n : ℕ) (rs : List Reservation) → Above k rs → Above k (without n rs)
above_without k n [] a = tt
above_without k n (y ∷ ys) a = go (eqb y.number n) (above_without y.number n ys a.1)
  where
    go : (t : Bool) → Above y.number (without n ys) → Above k (cond t ys (y ∷ without n ys))
    go true ih = let l = a.0 in above_weaker k y.number ys (omega arith) a.1
    go false ih = (a.0, ih)

pub above_push : (k g : ℕ) (rs : List Reservation) (r : Reservation) → Above k rs → All (λ x. x.number ≤ g) rs → k ≤ g → g < r.number → Above k (rs ++ r ∷ [])
above_push k g [] r a b l h = (omega arith, tt)
above_push k g (y ∷ ys) r a b l h = (a.0, above_push y.number g ys r a.1 (All-tail (λ x. x.number ≤ g) y ys b) (All-head (λ x. x.number ≤ g) y ys b) h)

pub above_map : (f : Reservation → Reservation) → ((x : Reservation) → (f x).number ≡ x.number) → (k : ℕ) (rs : List Reservation) → Above k rs → Above k (map f rs)
above_map f same k [] a = tt
above_map f same k (y ∷ ys) a =
    let e = same y in
    let l = a.0 in
    (omega arith, subst (λ (m : ℕ). Above m (map f ys)) (sym e) (above_map f same y.number ys a.1))

above_all : (k : ℕ) (rs : List Reservation) → Above k rs → All (λ x. k < x.number) rs
above_all k [] a = All-nil (λ x. k < x.number)
above_all k (y ∷ ys) a = All-cons (λ x. k < x.number) y ys a.0 (above_all k ys (above_weaker k y.number ys (let l = a.0 in omega arith) a.1))

-- Each one is found under its number.
pub each_found : (k : ℕ) (rs : List Reservation) → Above k rs → All (λ x. find x.number rs ≡ Some x) rs
each_found k [] a = All-nil (λ x. find x.number [] ≡ Some x)
each_found k (y ∷ ys) a =
    All-cons (λ x. find x.number (y ∷ ys) ≡ Some x) y ys (grind (arith, nat_tests))
    (λ i d l. past (get_or ys i d) (above_all y.number ys a.1 i d l) (each_found y.number ys a.1 i d l))
  where
    past : (x : Reservation) → y.number < x.number → find x.number ys ≡ Some x → find x.number (y ∷ ys) ≡ Some x
    past x l h = grind (arith, nat_tests)
