-- What a queue of keys holds, from its calendar's contracts.
use Rattle.std.proofs.Common.{◌≡◌, ℕ, ◌<◌, true, ltb, List, [], ◌∷◌, length, take, Some, Option, sym, refl, ap, ◌∙◌, arith, rules}
use Rattle.std.proofs.lemmas.List.{length-take}
use Rattle.std.proofs.lemmas.Bool.{lt-ltb}
use Rattle.calendar.specs.Orders.{Total}
use Rattle.calendar.specs.Queues.{filed, first, queue}
use Rattle.calendar.proofs.Counts.{length_queue}
use Rattle.rules.specs.System.{live_limit}
use Rattle.table.specs.declared.keys.Key.{Key}
use Rattle.table.specs.Order.{ahead, no_later}

-- any two keys compare, the order passes on, and two keys each before the other are the same
pub total : Total no_later
total = record { compares = λ x y. search rules; passes = λ x y z p q. search rules; same = λ x y p q. search rules }

-- fewer keys than places: there is a place for one more
pub roomy : (n : ℕ) (places : List Key) → length places ≡ live_limit → length (queue no_later (take n places)) < live_limit → ltb n (length places) ≡ true
roomy n places sized h =
    lt-ltb n (length places) (omega (arith, length_queue no_later (take n places), length-take n places))

pub first_filed : (k : Key) (ks : List Key) → first (filed no_later k ks) ≡ Some (ahead k (first ks))
first_filed k [] = refl
first_filed k (y ∷ ys) = grind arith

-- the first of the keys when one more is filed
pub first_put : (k x : Key) (least : Option Key) (ks ls : List Key) → least ≡ first ks → x ≡ ahead k least → ls ≡ filed no_later k ks → Some x ≡ first ls
first_put k x least ks ls known is next =
    ap Some is ∙ ap (λ y. Some (ahead k y)) known ∙ sym (first_filed k ks) ∙ ap first (sym next)
