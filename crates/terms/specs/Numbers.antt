-- The numbers of the refusals. Words: number, TellsApart.
use Rattle.std.specs.Prelude.{◌≡◌, ℕ}
use Rattle.terms.specs.declared.refusals.Refusal.{Refusal}
use Rattle.terms.specs.declared.refusals.Refusal.TheVariants.{
  Cores,
  Bandwidth,
  Start,
  Limits,
  NotTaken,
  NoCore,
  RoundOut,
  WrongRound,
  ClockEnd,
  NoReservation,
  TooMany,
  NumbersGone,
  NoRoom,
  NotResting,
  Resting,
  SameCore,
  Behind,
  LedgerFull,
  CalendarFull,
}

-- The number that a refusal answers.
abbrev pub number : Refusal → ℕ
number Cores = 1
number Bandwidth = 2
number Start = 3
number Limits = 4
number NotTaken = 5
number NoCore = 6
number RoundOut = 11
number WrongRound = 12
number ClockEnd = 13
number NoReservation = 14
number TooMany = 15
number NumbersGone = 16
number NoRoom = 17
number NotResting = 18
number Resting = 19
number SameCore = 20
number Behind = 21
number LedgerFull = 22
number CalendarFull = 23

-- No other refusal answers this number.
abbrev pub TellsApart : Refusal → ℕ → Type 0
TellsApart refusal n = (other : Refusal) → number other ≡ n → other ≡ refusal
