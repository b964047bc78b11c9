-- A queue gathered from the rows of a table, each of which gives some elements or none, where one row changes.
-- Assumes nothing.
use Rattle.std.proofs.Common.{◌≡◌, ℕ, suc, ◌<◌, Bool, List, [], ◌∷◌, ◌++◌, length, get_or, take, drop, set, sym, refl, ap, ◌∙◌}
use Rattle.std.specs.List.{flat_map, remove}
use Rattle.std.proofs.lemmas.List.{append-nil, append_assoc, set_split, set-get_or}
use Rattle.calendar.specs.Orders.{Total}
use Rattle.calendar.specs.Queues.{filed, queue, without}
use Rattle.calendar.proofs.Filing.{filed_comm, without_filed}

-- several elements filed
abbrev pub filed_each : {X : Type 0} → (X → X → Bool) → List X → List X → List X
filed_each before [] q = q
filed_each before (x ∷ xs) q = filed before x (filed_each before xs q)

-- one copy of each taken out
abbrev pub without_each : {X : Type 0} → (X → X → Bool) → List X → List X → List X
without_each before [] q = q
without_each before (x ∷ xs) q = without_each before xs (without before x q)

joined_append : {X R : Type 0} (f : R → List X) (rows more : List R) → flat_map f (rows ++ more) ≡ flat_map f rows ++ flat_map f more
joined_append f [] more = refl
joined_append f (r ∷ rows) more = ap (λ xs. f r ++ xs) (joined_append f rows more) ∙ sym (append_assoc (f r) (flat_map f rows) (flat_map f more))

module _ {X : Type 0} {before : X → X → Bool} (o : Total before) where
  filed_through : (x : X) (ks q : List X) → filed before x (filed_each before ks q) ≡ filed_each before ks (filed before x q)
  filed_through x [] q = refl
  filed_through x (k ∷ ks) q = filed_comm o x k (filed_each before ks q) ∙ ap (filed before k) (filed_through x ks q)

  pub without_each_filed : (ks q : List X) → without_each before ks (filed_each before ks q) ≡ q
  without_each_filed [] q = refl
  without_each_filed (k ∷ ks) q = ap (without_each before ks) (without_filed o k (filed_each before ks q)) ∙ without_each_filed ks q

  -- a part of a list is filed among the rest
  pub queue_part : (xs ks ys : List X) → queue before (xs ++ (ks ++ ys)) ≡ filed_each before ks (queue before (xs ++ ys))
  queue_part [] [] ys = refl
  queue_part [] (k ∷ ks) ys = ap (filed before k) (queue_part [] ks ys)
  queue_part (x ∷ xs) ks ys = ap (filed before x) (queue_part xs ks ys) ∙ filed_through x ks (queue before (xs ++ ys))

  module _ {R : Type 0} (f : R → List X) where
    row_between : (front : List R) (r : R) (back : List R) → queue before (flat_map f (front ++ r ∷ back)) ≡ filed_each before (f r) (queue before (flat_map f (front ++ back)))
    row_between front r back =
        ap (queue before) (joined_append f front (r ∷ back))
        ∙ queue_part (flat_map f front) (f r) (flat_map f back)
        ∙ ap (λ xs. filed_each before (f r) (queue before xs)) (sym (joined_append f front back))

    -- a row's elements among those of the other rows
    pub queue_row : (rows : List R) (i : ℕ) (d : R) → i < length rows → queue before (flat_map f rows) ≡ filed_each before (f (get_or rows i d)) (queue before (flat_map f (remove rows i)))
    queue_row rows i d h =
        ap (λ rs. queue before (flat_map f rs)) (sym (set-get_or rows i d) ∙ set_split rows i (get_or rows i d) h)
        ∙ row_between (take i rows) (get_or rows i d) (drop (suc i) rows)

    -- a row goes
    pub queue_row_removed : (rows : List R) (i : ℕ) (d : R) → i < length rows → queue before (flat_map f (remove rows i)) ≡ without_each before (f (get_or rows i d)) (queue before (flat_map f rows))
    queue_row_removed rows i d h =
        sym (ap (without_each before (f (get_or rows i d))) (queue_row rows i d h) ∙ without_each_filed (f (get_or rows i d)) (queue before (flat_map f (remove rows i))))

    -- a row is replaced
    pub queue_row_set : (rows : List R) (i : ℕ) (r d : R) → i < length rows → queue before (flat_map f (set rows i r)) ≡ filed_each before (f r) (without_each before (f (get_or rows i d)) (queue before (flat_map f rows)))
    queue_row_set rows i r d h =
        ap (λ rs. queue before (flat_map f rs)) (set_split rows i r h)
        ∙ row_between (take i rows) r (drop (suc i) rows)
        ∙ ap (filed_each before (f r)) (queue_row_removed rows i d h)

    -- a row comes at the end
    pub queue_row_push : (rows : List R) (r : R) → queue before (flat_map f (rows ++ r ∷ [])) ≡ filed_each before (f r) (queue before (flat_map f rows))
    queue_row_push rows r = row_between rows r [] ∙ ap (λ rs. filed_each before (f r) (queue before (flat_map f rs))) (append-nil rows)
