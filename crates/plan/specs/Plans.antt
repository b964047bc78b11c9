-- A whole plan: a header, then events up to the end record, and nothing after it.
use Rattle.std.specs.Prelude.{◌≡◌, codes, ℕ, zero, suc, ◌+◌, ◌-◌, ◌/◌, Bool, true, false, cond, List, [], ◌∷◌, map, length, drop, Some, None, Ok, Err, vec_items, Option, Result, nat_le, is_none, unwrap_or}
use Rattle.std.specs.Option.{option_copied}
use Rattle.std.specs.Borrow.{Bor}
use Rattle.fault.specs.declared.Spot.{Spot}
use Rattle.plan.specs.declared.event.Kind.{Kind}
use Rattle.plan.specs.declared.header.Header.{Header}
use Rattle.plan.specs.declared.events.Events.{Events}
use Rattle.plan.specs.declared.reading.Plan.{Plan}
use Rattle.plan.specs.declared.reading.PlanError.{PlanError}
use Rattle.plan.specs.Bits.{spot_of, then, given}
use Rattle.fault.specs.Faults.{Fault, too_long, trailing, plan_told, fault_line}
use Rattle.plan.specs.Headers.{header_length, header_of}
use Rattle.plan.specs.Records.{Row, event_of, row_of}

-- An end record is the last.
abbrev pub is_end : Kind → Bool
is_end Kind.Admit = false
is_end Kind.Wake = false
is_end Kind.Rest = false
is_end Kind.Leave = false
is_end Kind.Move = false
is_end Kind.End = true

-- Nothing follows an end record: of so many bytes from its start on, it has all.
abbrev pub placed : Kind → ℕ → Bool
placed kind n = cond (is_end kind) (nat_le n 8) true

-- The event of the record that starts at o, in its place.
unfoldable pub step_of : List ℕ → Spot → Result Row Fault
step_of bs o = then (event_of bs o) (λ e. given (placed e.kind (length bs)) (trailing (spot_of o 64)) (Ok e))

-- Where the record after the one at o starts.
abbrev pub after_spot : Spot → Spot
after_spot o = record { byte = o.byte + 8; number = o.number + 1 }

-- The events from the record at o to the end record. The first number is more than there can be records.
unfoldable pub events_of : ℕ → List ℕ → Spot → Result (List Row) Fault
events_of zero bs o = Ok []
events_of (suc n) bs o =
    then (step_of bs o) (λ e. cond (is_end e.kind) (Ok (e ∷ [])) (then (events_of n (drop 8 bs) (after_spot o)) (λ es. Ok (e ∷ es))))

-- What an events reader holds: the bytes to come, the plan's length, the place of the first event, and whether the end record was read.
pub record Reader : Type 0 where
  pub rest : List ℕ
  pub total : ℕ
  pub first : ℕ
  pub ended : Bool

-- The bytes to come: none past the end record.
abbrev pub unread : Option (Bor (List ℕ)) → List ℕ
unread rest = unwrap_or (option_copied rest) []

abbrev pub reader_of : Events → Reader
reader_of e = record { rest = unread e.rest; total = e.total; first = e.first; ended = is_none e.rest }

-- Where the next record starts: so far into the plan, and the first event is record 1.
abbrev pub next_spot : Reader → Spot
next_spot s =
    record { byte = s.total - length s.rest; number = (s.total - length s.rest - s.first) / 8 + 1 }

-- What a reader answers: none past the end, else the next event or the fault.
abbrev pub next_of : Reader → Result (Option Row) Fault
next_of s = cond s.ended (Ok None) (then (step_of s.rest (next_spot s)) (λ e. Ok (Some e)))

-- A reader past an event: a fault leaves it as it is.
abbrev pub passed : Reader → Result Row Fault → Reader
passed s (Ok e) = record { rest = drop 8 s.rest; total = s.total; first = s.first; ended = is_end e.kind }
passed s (Err e) = s

abbrev pub after_of : Reader → Reader
after_of s = cond s.ended s (passed s (step_of s.rest (next_spot s)))

-- A reader at the first event: the bytes to come follow the header.
pub record Fresh (s : Reader) : Type 0 where
  pub opened : s.ended ≡ false
  pub whole : s.total ≡ s.first + length s.rest

-- An opened plan: its header, and the reader of the events after it.
abbrev pub reader_at : List ℕ → Header → Reader
reader_at bs h =
    record { rest = drop (header_length h.cores) bs; total = length bs; first = header_length h.cores; ended = false }

-- The longest plan has 65,536 bytes.
abbrev pub open_of : List ℕ → Result (Header × Reader) Fault
open_of bs = given (nat_le (length bs) 65536) too_long (then (header_of bs) (λ h. Ok (h, reader_at bs h)))

-- What a plan says: its header, and its events in their order.
pub record Contents : Type 0 where
  pub header : Header
  pub events : List Row

-- The first event is record 1, right after the header.
abbrev pub first_spot : ℕ → Spot
first_spot place = record { byte = place; number = 1 }

-- A plan is a fault, or a header and events. A record has eight bytes, so there are fewer records than bytes.
abbrev pub plan_of : List ℕ → Result Contents Fault
plan_of bs =
    given (nat_le (length bs) 65536) too_long (
    then (header_of bs) (λ h.
    then (events_of (suc (length bs)) (drop (header_length h.cores) bs) (first_spot (header_length h.cores))) (λ es.
    Ok (record { header = h; events = es }))))

-- What the code's plan holds.
abbrev pub contents_of : Plan → Contents
contents_of p = record { header = p.header; events = map row_of (vec_items p.events) }

-- The answer is w, its value seen through f, unless memory fails.
abbrev pub Answers : {A B : Type 0} → (A → B) → Result A PlanError → Result B Fault → Type 0
Answers f (Ok x) w = Ok (f x) ≡ w
Answers f (Err (PlanError.Fault e)) w = Err (plan_told e) ≡ w
Answers f (Err PlanError.Memory) w = Unit {0}

-- What a plan that is not read prints: its fault's line, or that memory failed.
abbrev pub error_line : PlanError → List ℕ
error_line (PlanError.Fault e) = fault_line (plan_told e)
error_line PlanError.Memory = codes "out of memory"
