-- The keys of ready reservations, and what a core's ready queue holds.
use Rattle.std.specs.Prelude.{◌≡◌, ℕ, ◌<◌, cond, List, map, replicate, None, slice_index_or, refl}
use Rattle.std.specs.Coded.{Coded, Coded-set, code_by, coded_list, coded_ℕ, coded×, Π_prop, →_prop}
use Rattle.std.specs.List.{filter}
use Rattle.calendar.specs.Queues.{filed, queue, without}
use Rattle.calendar.specs.Places.{held, counting}
use Rattle.rules.specs.declared.types.Reservation.{Reservation}
use Rattle.rules.specs.Dealing.{is_ready_on}
use Rattle.rules.specs.System.{live_limit}
use Rattle.table.specs.declared.keys.Key.{Key}
use Rattle.table.specs.declared.keys.Queue.{Queue}
use Rattle.table.specs.Order.{key_of, no_later}

-- The keys of the reservations that are ready on core c, in the order in which they go.
unfoldable pub ready_keys : ℕ → List Reservation → List Key
ready_keys c rs = queue no_later (map key_of (filter (is_ready_on c) rs))

-- The keys that a queue holds, in the order in which they go.
unfoldable pub waiting : Queue → List Key
waiting q = queue no_later (held q.calendar q.places)

-- No queue: what stands past the last core.
abbrev pub no_queue : Queue
no_queue = record {
  calendar = counting 0;
  places = replicate live_limit (record { deadline = 0; number = 0 });
  least = None;
  known = refl;
}

-- The keys that core c's queue holds.
abbrev pub waiting_on : ℕ → List Queue → List Key
waiting_on c qs = waiting (slice_index_or qs c no_queue)

-- The keys with that of r filed among them, where r is ready on core c.
abbrev pub filed_on : ℕ → Reservation → List Key → List Key
filed_on c r ks = cond (is_ready_on c r) (filed no_later (key_of r) ks) ks

-- The keys less that of r, where r is ready on core c.
abbrev pub less_on : ℕ → Reservation → List Key → List Key
less_on c r ks = cond (is_ready_on c r) (without no_later (key_of r) ks) ks

-- Each core's queue holds the keys of the reservations that are ready on it.
abbrev pub Tied : List Queue → List Reservation → Type 0
Tied qs rs = (c : ℕ) → c < 8 → waiting_on c qs ≡ ready_keys c rs

-- A key is stored as the pair of its figures.
abbrev key_code : Coded Key
key_code =
    code_by (ℕ × ℕ) (coded× coded_ℕ coded_ℕ) (λ k. (k.deadline, k.number)) (λ p. record { deadline = p.0; number = p.1 }) (λ _. refl)

-- Queues are tied in one way at most.
pub Tied-prop : (qs : List Queue) (rs : List Reservation) → IsProp (Tied qs rs)
Tied-prop qs rs = Π_prop (λ c. →_prop (Coded-set (coded_list key_code) (waiting_on c qs) (ready_keys c rs)))
