-- The keys of reservations and their order.
use Rattle.std.specs.Prelude.{Bool, cond, ◌&&◌, ◌||◌, Some, None, Option, ◌==◌, nat_le, nat_lt}
use Rattle.rules.specs.declared.types.Reservation.{Reservation}
use Rattle.table.specs.declared.keys.Key.{Key}

-- The key of a reservation.
abbrev pub key_of : Reservation → Key
key_of r = record { deadline = r.deadline; number = r.number }

-- x goes before y or is y: the earlier deadline first, then the lower number.
abbrev pub no_later : Key → Key → Bool
no_later x y = nat_lt x.deadline y.deadline || (x.deadline == y.deadline && nat_le x.number y.number)

-- Of a key and the first of the others, the one that goes first.
abbrev pub ahead : Key → Option Key → Key
ahead k None = k
ahead k (Some y) = cond (no_later k y) k y
