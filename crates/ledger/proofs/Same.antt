-- What two lists with the same entries have in common.
-- Assumes nothing.
use Rattle.std.proofs.Common.{◌≡◌, ℕ, ◌+◌, Bool, cond, ltb, List, ◌∷◌, length, filter, sym, refl, ap, ◌∙◌, arith}
use Rattle.std.proofs.lemmas.Bool.{cond_both}
use Rattle.calendar.specs.Queues.{filed, queue}
use Rattle.calendar.proofs.Counts.{fold_queue, length_queue}
use Rattle.calendar.proofs.Filters.{kept_queue}
use Rattle.rules.specs.declared.types.Entry.{Entry}
use Rattle.rules.specs.Lists.{total}
use Rattle.rules.specs.Order.{lapses_first}
use Rattle.rules.specs.Parts.{departed_parts}
use Rattle.rules.specs.System.{ledger_limit}
use Rattle.ledger.specs.Entries.{SameEntries, room_for, written, purged}
use Rattle.ledger.proofs.Order.{order}

pub total_queue : (f : Entry → ℕ) (es : List Entry) → total f (queue lapses_first es) ≡ total f es
total_queue f = fold_queue lapses_first (total f) (λ e n. f e + n) (λ _ _. refl) (λ x y n. omega arith)

module _ (xs ys : List Entry) (same : SameEntries xs ys) where
  pub same_length : length xs ≡ length ys
  same_length = sym (length_queue lapses_first xs) ∙ ap length same ∙ length_queue lapses_first ys

  pub same_total : (f : Entry → ℕ) → total f xs ≡ total f ys
  same_total f = sym (total_queue f xs) ∙ ap (total f) same ∙ total_queue f ys

  pub same_departed : (t c : ℕ) → departed_parts t c xs ≡ departed_parts t c ys
  same_departed t c = same_total _

  pub same_cons : (e : Entry) → SameEntries (e ∷ xs) (e ∷ ys)
  same_cons e = ap (filed lapses_first e) same

  pub same_kept : (p : Entry → Bool) → SameEntries (filter p xs) (filter p ys)
  same_kept p = sym (kept_queue order p xs) ∙ ap (filter p) same ∙ kept_queue order p ys

  pub same_room : room_for xs ≡ room_for ys
  same_room = ap (λ n. ltb n ledger_limit) same_length

  pub same_purged : (t : ℕ) → SameEntries (purged t xs) (purged t ys)
  same_purged t = same_kept _

  pub same_written : (e : Entry) → SameEntries (written e xs) (written e ys)
  same_written e =
      ap (queue lapses_first) (ap (λ b. cond b (e ∷ xs) xs) same_room)
      ∙ cond_both (room_for ys) (e ∷ ys) ys (λ zs. queue lapses_first (cond (room_for ys) (e ∷ xs) xs) ≡ queue lapses_first zs)
      (λ yes-room. rw yes-room (same_cons e))
      (λ no_room. rw no_room same)
