-- Earliest deadline first: whom each core is dealt to.
use Rattle.std.specs.Prelude.{ℕ, suc, Bool, cond, ◌&&◌, ◌||◌, List, [], ◌∷◌, Some, None, Option, ◌==◌, nat_le, nat_lt}
use Rattle.std.specs.Option.{option_map}
use Rattle.std.specs.List.{filter}
use Rattle.rules.specs.declared.types.Reservation.{Reservation}
use Rattle.rules.specs.Server.{is_ready}

-- r goes before x: the earlier deadline first, then the lower number.
abbrev pub goes_first : Reservation → Reservation → Bool
goes_first r x = nat_lt r.deadline x.deadline || (r.deadline == x.deadline && nat_le r.number x.number)

-- Of r and the first of the others, the one that goes first.
abbrev pub sooner : Reservation → Option Reservation → Reservation
sooner r None = r
sooner r (Some x) = cond (goes_first r x) r x

-- The one that goes first of all.
abbrev pub earliest : List Reservation → Option Reservation
earliest [] = None
earliest (r ∷ rs) = Some (sooner r (earliest rs))

-- Ready on core c.
abbrev pub is_ready_on : ℕ → Reservation → Bool
is_ready_on c r = is_ready r.state && r.core == c

-- The reservation that core c is dealt to: of those ready on it the one with the earliest deadline, then the lowest number.
abbrev pub pick : ℕ → List Reservation → Option Reservation
pick c rs = earliest (filter (is_ready_on c) rs)

-- The numbers of the reservations that the n cores from c on are dealt to.
abbrev pub picks_from : ℕ → ℕ → List Reservation → List (Option ℕ)
picks_from c ℕ.zero rs = []
picks_from c (suc n) rs = option_map (λ r. r.number) (pick c rs) ∷ picks_from (suc c) n rs

-- The names that n cores are dealt to, in core order.
abbrev pub picks : ℕ → List Reservation → List (Option ℕ)
picks n rs = picks_from 0 n rs
