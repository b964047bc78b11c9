-- The whole state of an engine.
use Rattle.std.specs.Prelude.{ℕ, Bool, false, List, [], Option}
use Rattle.rules.specs.declared.types.Reservation.{Reservation}
use Rattle.rules.specs.declared.types.Entry.{Entry}
use Rattle.rules.specs.Setup.{Setup}

-- The clock, the live reservations in number order, the ledger's entries, how many numbers were given, whether a round is out, and
-- the names dealt with it, one for each core in core order; while no round is out there are none.
pub record System : Type 0 where
  pub clock : ℕ
  pub live : List Reservation
  pub ledger : List Entry
  pub given : ℕ
  pub out : Bool
  pub names : List (Option ℕ)

-- An engine just made.
abbrev pub fresh : Setup → System
fresh s = record { clock = s.start; live = []; ledger = []; given = 0; out = false; names = [] }

-- The state with other live reservations.
abbrev pub with_live : System → List Reservation → System
with_live σ rs =
    record { clock = σ.clock; live = rs; ledger = σ.ledger; given = σ.given; out = σ.out; names = σ.names }

-- The state with other live reservations and another ledger.
abbrev pub with_both : System → List Reservation → List Entry → System
with_both σ rs es = record { clock = σ.clock; live = rs; ledger = es; given = σ.given; out = σ.out; names = σ.names }

-- At most so many reservations are live, so many entries in the ledger, and so many numbers are ever given.
abbrev pub live_limit : ℕ
live_limit = 64

abbrev pub ledger_limit : ℕ
ledger_limit = 128

abbrev pub last_number : ℕ
last_number = 65535
