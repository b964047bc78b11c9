use Rattle.std.proofs.Common.{suc, map, length, vec_items}
use Rattle.plan.specs.Plans.{reader_of, events_of, first_spot}
use Rattle.plan.specs.Records.{row_of}
use Rattle.plan.proofs.Gathered.{Sofar}
use Rattle.plan.proofs.reading.gather.Given as goal

abbrev pub invariant-loop-events : goal.invariant-loop-events
invariant-loop-events l =
    Sofar (events_of (suc (reader_of l.initial.reader).total) (reader_of l.initial.reader).rest (first_spot (reader_of l.initial.reader).first)) (reader_of l.reader) (map row_of (vec_items l.events))

abbrev pub decreases-loop-events : goal.decreases-loop-events
decreases-loop-events l = length (reader_of l.reader).rest
