-- How the keys of the ready reservations change when one reservation goes, comes or is replaced.
use Rattle.std.proofs.Common.{◌≡◌, ℕ, suc, ◌<◌, ◌≤◌, false, List, [], ◌∷◌, ◌++◌, map, length, get_or, take, drop, set, replicate, sym, refl, ap, ◌∙◌, arith}
use Rattle.std.specs.List.{filter, remove}
use Rattle.std.proofs.lemmas.List.{append-nil, get_or-replicate, length-map, set-get_or, set_split}
use Rattle.std.proofs.lemmas.List.Edits.{length-remove}
use Rattle.std.proofs.lemmas.List.Sums.{length-filter, count_by-le-length}
use Rattle.calendar.proofs.Filing.{filed_comm, without_filed}
use Rattle.calendar.proofs.Counts.{length_queue}
use Rattle.rules.specs.declared.types.Reservation.{Reservation}
use Rattle.rules.specs.Dealing.{is_ready_on}
use Rattle.rules.specs.Server.{is_ready}
use Rattle.rules.specs.System.{live_limit}
use Rattle.table.specs.declared.keys.Key.{Key}
use Rattle.table.specs.declared.keys.Queue.{Queue}
use Rattle.table.specs.Keys.{ready_keys, waiting, waiting_on, no_queue, filed_on, less_on, Tied}
use Rattle.table.specs.Order.{key_of, no_later}
use Rattle.table.proofs.Waiting.{total}

filed_on_comm : (c : ℕ) (r x : Reservation) (ks : List Key) → filed_on c r (filed_on c x ks) ≡ filed_on c x (filed_on c r ks)
filed_on_comm c r x ks = let h = filed_comm total (key_of r) (key_of x) ks in grind arith

-- what was filed is taken out again
pub less_on_filed_on : (c : ℕ) (r : Reservation) (ks : List Key) → less_on c r (filed_on c r ks) ≡ ks
less_on_filed_on c r ks = let h = without_filed total (key_of r) ks in grind arith

ready_cons : (c : ℕ) (r : Reservation) (rs : List Reservation) → ready_keys c (r ∷ rs) ≡ filed_on c r (ready_keys c rs)
unfolding ready_keys
ready_cons c r rs = grind arith

-- one more in the middle
ready_middle : (c : ℕ) (xs : List Reservation) (r : Reservation) (ys : List Reservation) → ready_keys c (xs ++ r ∷ ys) ≡ filed_on c r (ready_keys c (xs ++ ys))
ready_middle c [] r ys = ready_cons c r ys
ready_middle c (x ∷ xs) r ys =
    ready_cons c x (xs ++ r ∷ ys)
    ∙ ap (filed_on c x) (ready_middle c xs r ys)
    ∙ filed_on_comm c x r (ready_keys c (xs ++ ys))
    ∙ ap (filed_on c r) (sym (ready_cons c x (xs ++ ys)))

-- one replaced
ready_set : (c : ℕ) (rs : List Reservation) (i : ℕ) (r : Reservation) → i < length rs → ready_keys c (set rs i r) ≡ filed_on c r (ready_keys c (remove rs i))
ready_set c rs i r h = ap (ready_keys c) (set_split rs i r h) ∙ ready_middle c (take i rs) r (drop (suc i) rs)

-- the one at a place, and the others
ready_at : (c : ℕ) (rs : List Reservation) (i : ℕ) (d : Reservation) → i < length rs → ready_keys c rs ≡ filed_on c (get_or rs i d) (ready_keys c (remove rs i))
ready_at c rs i d h = ap (ready_keys c) (sym (set-get_or rs i d)) ∙ ready_set c rs i (get_or rs i d) h

length_ready : (c : ℕ) (rs : List Reservation) → length (ready_keys c rs) ≤ length rs
unfolding ready_keys
length_ready c rs =
    omega (arith, length_queue no_later (map key_of (filter (is_ready_on c) rs)), length-map (filter (is_ready_on c) rs) key_of, length-filter (is_ready_on c) rs, count_by-le-length (is_ready_on c) rs)

module _ (rs : List Reservation) (qs : List Queue) (tied : Tied qs rs) (i : ℕ) (d : Reservation) (within : i < length rs) where
  -- what a core's queue holds when a row's key is taken out
  less_tied : (c : ℕ) → c < 8 → less_on c (get_or rs i d) (waiting_on c qs) ≡ ready_keys c (remove rs i)
  less_tied c h =
      ap (less_on c (get_or rs i d)) (tied c h ∙ ready_at c rs i d within)
      ∙ less_on_filed_on c (get_or rs i d) (ready_keys c (remove rs i))

  -- there is then a place for another
  pub room_less : length rs ≤ live_limit → (c : ℕ) → c < 8 → length (less_on c (get_or rs i d) (waiting_on c qs)) < 64
  room_less few c h =
      omega (arith, ap length (less_tied c h), length_ready c (remove rs i), length-remove rs i within)

  -- the queues after a row's key is taken out
  pub tied_less : (ps : List Queue) → ((c : ℕ) → c < 8 → waiting_on c ps ≡ less_on c (get_or rs i d) (waiting_on c qs)) → Tied ps (remove rs i)
  tied_less ps next c h = next c h ∙ less_tied c h

  -- the queues after another row's key is filed in its place
  pub tied_next : (ps : List Queue) (r : Reservation) → ((c : ℕ) → c < 8 → (ks : List Key) → waiting_on c qs ≡ filed_on c (get_or rs i d) ks → waiting_on c ps ≡ filed_on c r ks) → Tied ps (set rs i r)
  tied_next ps r next c h = next c h (ready_keys c (remove rs i)) (tied c h ∙ ready_at c rs i d within) ∙ sym (ready_set c rs i r within)

-- a row that is not ready, at the end
pub tied_push : (rs : List Reservation) (r : Reservation) (qs : List Queue) → is_ready r.state ≡ false → Tied qs rs → Tied qs (rs ++ r ∷ [])
tied_push rs r qs idle tied c h =
    let m = ready_middle c rs r [] in
    let n = append-nil rs in
    let t = tied c h in
    grind arith

-- empty queues and no rows
pub tied_new : (q : Queue) (rs : List Reservation) → waiting q ≡ [] → rs ≡ [] → Tied (replicate 8 q) rs
unfolding ready_keys
tied_new q rs empty none c h = ap waiting (get_or-replicate 8 c q no_queue h) ∙ empty ∙ rw none refl
