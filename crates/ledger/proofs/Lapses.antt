-- The earliest tick, and what a purge takes and leaves.
-- Assumes nothing.
use Rattle.std.proofs.Common.{◌≡◌, ℕ, ◌+◌, ◌<◌, ◌≤◌, min, true, false, leb, List, [], ◌∷◌, length, take, set, Some, None, IfSome, Option, sym, refl, ap, ◌∙◌, arith}
use Rattle.std.specs.List.{All}
use Rattle.std.proofs.lemmas.List.{take_more_set}
use Rattle.std.proofs.lemmas.List.Elements.{All-head, All-tail}
use Rattle.std.proofs.lemmas.List.Recursion.{and_push}
use Rattle.std.proofs.lemmas.Bool.{le-leb, lt-ltb, le-ltb, cond-true, cond-false}
use Rattle.std.proofs.lemmas.Bool.Decides.{nat_tests}
use Rattle.calendar.specs.declared.Calendar.{Calendar}
use Rattle.calendar.specs.Places.{counting, less, put_calendar, put_places}
use Rattle.calendar.specs.Queues.{queue, first, after}
use Rattle.calendar.proofs.Filters.{kept_queue}
use Rattle.calendar.proofs.Sorted.{first_some, first_none}
use Rattle.rules.specs.declared.types.Entry.{Entry}
use Rattle.rules.specs.Order.{lapses_first}
use Rattle.ledger.specs.Entries.{SameEntries, purged}
use Rattle.ledger.specs.Lapses.{none_before, lapses_after}
use Rattle.ledger.proofs.Order.{order, first_lapses}

none_before_less : (t m : ℕ) → m ≤ t → (es : List Entry) → none_before t es ≡ true → none_before m es ≡ true
none_before_less t m le [] h = refl
none_before_less t m le (e ∷ es) h = let more = none_before_less t m le es in grind (arith, nat_tests)

-- one more at the end
none_before_more : (t : ℕ) (e : Entry) (es : List Entry) (n : ℕ) → n < length es → none_before t (take n es) ≡ true → none_before (min t e.lapse) (take (n + 1) (set es n e)) ≡ true
none_before_more t e es n h was =
    let m = min t e.lapse in
    let front = none_before_less t m (omega arith) (take n es) was in
    let push = and_push (none_before m) (λ x. leb m x.lapse) refl (λ _ _. refl) (take n es) e in
    rw (take_more_set es n e, push, front) (le-leb m e.lapse (omega arith))

-- none lapses before one that is at most each
none_before_heads : (e : Entry) (es : List Entry) → All (λ x. lapses_first e x ≡ true) es → none_before e.lapse es ≡ true
none_before_heads e [] all = refl
none_before_heads e (x ∷ es) all =
    let more = none_before_heads e es (All-tail (λ x. lapses_first e x ≡ true) x es all) in
    let le = first_lapses e x (All-head (λ x. lapses_first e x ≡ true) x es all) in
    grind (arith, nat_tests)

pub none_before_least : (least : Option Entry) (t : ℕ) (es : List Entry) → least ≡ first (queue lapses_first es) → IfSome least (λ e. t ≡ e.lapse) → none_before t es ≡ true
none_before_least None t es is at = rw (first_none order es (sym is))
none_before_least (Some e) t es is at = rw at (none_before_heads e es (first_some order es e (sym is)).1)

-- none lapses before the least one does
pub none_before_first : (e : Entry) (es : List Entry) → Some e ≡ first (queue lapses_first es) → none_before e.lapse es ≡ true
none_before_first e es is = none_before_least (Some e) e.lapse es is refl

pub none_before_none : (t : ℕ) (es : List Entry) → None ≡ first (queue lapses_first es) → none_before t es ≡ true
none_before_none t es is = rw (first_none order es (sym is))

-- where none lapses before a later tick, all stay
pub purged_none : (clock t : ℕ) (es : List Entry) → clock < t → none_before t es ≡ true → purged clock es ≡ es
purged_none clock t [] lt h = refl
purged_none clock t (e ∷ es) lt h = let more = purged_none clock t es lt in grind (arith, nat_tests)

-- one more is put
pub put_one : (t m : ℕ) (e : Entry) (c c' : Calendar) (es es' : List Entry) → none_before t (take c.count es) ≡ true → c.count < length es → m ≡ min t e.lapse → c' ≡ put_calendar c es → es' ≡ put_places e c es → none_before m (take c'.count es') ≡ true
put_one t m e c c' es es' was room least next put =
    let roomy = lt-ltb c.count (length es) room in
    let count : c' ≡ counting (c.count + 1) = next ∙ cond-true _ _ _ roomy in
    let places : es' ≡ set es c.count e = put ∙ cond-true _ _ _ roomy in
    rw (least, count, places) (none_before_more t e es c.count room was)

-- a removal never raises the count
pub less_count : (r : Option Entry) (c c' : Calendar) (es : List Entry) → c' ≡ less r c es → c'.count ≤ c.count
less_count None c c' es is = rw is (omega arith)
less_count (Some e) c c' es is = rw is (omega arith)

module _ (clock : ℕ) (start es : List Entry) (was : SameEntries (purged clock es) (purged clock start)) where
  -- the least stays: all do
  pub least_stays : (e : Entry) → Some e ≡ first (queue lapses_first es) → clock < e.lapse → SameEntries es (purged clock start)
  least_stays e is lt = ap (queue lapses_first) (sym (purged_none clock e.lapse es lt (none_before_least (Some e) e.lapse es is refl))) ∙ was

  -- none is left
  pub least_none : None ≡ first (queue lapses_first es) → SameEntries es (purged clock start)
  least_none is = let empty = first_none order es (sym is) in rw empty (rw empty at was)

  -- the least goes
  pub least_goes : (e : Entry) (es' : List Entry) → Some e ≡ first (queue lapses_first es) → e.lapse ≤ clock → queue lapses_first es' ≡ after (queue lapses_first es) → SameEntries (purged clock es') (purged clock start)
  least_goes e es' is le next =
      sym (kept_queue order (lapses_after clock) es') ∙ ap (purged clock) next
      ∙ goes (queue lapses_first es) is
      ∙ kept_queue order (lapses_after clock) es ∙ was
    where
      goes : (q : List Entry) → Some e ≡ first q → purged clock (after q) ≡ purged clock q
      goes [] h = refl
      goes (x ∷ q) h =
          let same : x ≡ e = cc in
          let out : lapses_after clock x ≡ false = ap (lapses_after clock) same ∙ le-ltb clock e.lapse le in
          sym (cond-false (lapses_after clock x) (x ∷ purged clock q) (purged clock q) out)
