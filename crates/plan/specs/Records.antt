-- The layout of an event's record.
use Rattle.std.specs.Prelude.{◌≡◌, ℕ, ◌≤◌, Bool, true, false, cond, List, length, take, drop, Some, None, Ok, codes, Option, Result, ◌==◌}
use Rattle.fault.specs.declared.Flaw.{Flaw}
use Rattle.fault.specs.declared.Spot.{Spot}
use Rattle.plan.specs.declared.event.Event.{Event}
use Rattle.plan.specs.declared.event.Figures.{Figures}
use Rattle.plan.specs.declared.event.Front.{Front}
use Rattle.plan.specs.declared.event.Kind.{Kind}
use Rattle.plan.specs.declared.event.Source.{Source}
use Rattle.plan.specs.Bits.{bits, field_of, spot_of, then, given, named}
use Rattle.fault.specs.Faults.{Fault, wrong}

-- The kind's number: 1 admit, 2 wake, 3 rest, 4 leave, 5 move, 6 end.
abbrev pub kind_of : ℕ → Option Kind
kind_of n =
    cond (n == 1) (Some Kind.Admit) (cond (n == 2) (Some Kind.Wake) (cond (n == 3) (Some Kind.Rest) (
    cond (n == 4) (Some Kind.Leave) (cond (n == 5) (Some Kind.Move) (cond (n == 6) (Some Kind.End) None)))))

-- The word of each kind.
abbrev pub kind_word : Kind → List ℕ
kind_word Kind.Admit = codes "admit"
kind_word Kind.Wake = codes "wake"
kind_word Kind.Rest = codes "rest"
kind_word Kind.Leave = codes "leave"
kind_word Kind.Move = codes "move"
kind_word Kind.End = codes "end"

-- An end has no A.
abbrev pub lacks_a : Kind → Bool
lacks_a Kind.Admit = false
lacks_a Kind.Wake = false
lacks_a Kind.Rest = false
lacks_a Kind.Leave = false
lacks_a Kind.Move = false
lacks_a Kind.End = true

-- Wake, rest, leave and end have no B.
abbrev pub lacks_b : Kind → Bool
lacks_b Kind.Admit = false
lacks_b Kind.Wake = true
lacks_b Kind.Rest = true
lacks_b Kind.Leave = true
lacks_b Kind.Move = false
lacks_b Kind.End = true

-- A figure that the kind lacks has to be zero.
abbrev pub proper : Bool → ℕ → Bool
proper true n = n == 0
proper false n = true

-- What an event as read holds: its kind, its figures, the eight bytes it came from and their place.
pub record Row : Type 0 where
  pub kind : Kind
  pub gap : ℕ
  pub a : ℕ
  pub b : ℕ
  pub bytes : List ℕ
  pub place : ℕ

-- The figures of the first eight bytes: kind 4 bits, gap 20, A 20, B 20.
pub record Unpacked (bs : List ℕ) (f : Figures) (after : List ℕ) : Type 0 where
  pub whole : 8 ≤ length bs
  pub kind : f.kind ≡ bits bs 0 4
  pub gap : f.gap ≡ bits bs 4 20
  pub a : f.a ≡ bits bs 24 20
  pub b : f.b ≡ bits bs 44 20
  pub rest : after ≡ drop 8 bs

-- The kind that the record's first field names.
abbrev pub kind_at : List ℕ → Spot → Result Kind Fault
kind_at bs o = then (field_of bs o 0 4) (λ n. named (kind_of n) (wrong Flaw.Kind (spot_of o 0)))

-- A field of 20 bits that has to be zero if the kind lacks it.
abbrev pub figure_at : List ℕ → Spot → ℕ → Bool → Result ℕ Fault
figure_at bs o i lacks =
    then (field_of bs o i 20) (λ n. given (proper lacks n) (wrong Flaw.Range (spot_of o i)) (Ok n))

-- Kind, gap and A of the record that starts at o, in the bytes from there on.
abbrev pub front_of : List ℕ → Spot → Result Front Fault
front_of bs o =
    then (kind_at bs o) (λ kind.
    then (field_of bs o 4 20) (λ gap.
    then (figure_at bs o 24 (lacks_a kind)) (λ a.
    Ok (record { kind = kind; gap = gap; a = a }))))

-- The event of the record that starts at o, in the bytes from there on.
abbrev pub event_of : List ℕ → Spot → Result Row Fault
event_of bs o =
    then (front_of bs o) (λ front.
    then (figure_at bs o 44 (lacks_b front.kind)) (λ b.
    Ok (record { kind = front.kind; gap = front.gap; a = front.a; b = b; bytes = take 8 bs; place = o.byte })))

-- A row of these figures, from this record.
abbrev pub row_from : Source → Kind → ℕ → ℕ → ℕ → Row
row_from s kind gap a b = record { kind = kind; gap = gap; a = a; b = b; bytes = s.bytes.now; place = s.place }

-- What an event holds, with 0 for a figure that its kind lacks.
abbrev pub row_of : Event → Row
row_of (Event.Admit gap budget period s) = row_from s Kind.Admit gap budget period
row_of (Event.Wake gap number s) = row_from s Kind.Wake gap number 0
row_of (Event.Rest gap number s) = row_from s Kind.Rest gap number 0
row_of (Event.Leave gap number s) = row_from s Kind.Leave gap number 0
row_of (Event.Move gap number core s) = row_from s Kind.Move gap number core
row_of (Event.End gap s) = row_from s Kind.End gap 0 0

-- The row of a kind with these figures.
abbrev pub row_with : Kind → Figures → List ℕ → ℕ → Row
row_with kind f bs place = record { kind = kind; gap = f.gap; a = f.a; b = f.b; bytes = bs; place = place }
