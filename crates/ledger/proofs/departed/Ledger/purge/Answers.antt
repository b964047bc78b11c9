use Rattle.std.proofs.Common.{◌≡◌, IfSome, sym, ap, arith, rules}
use Rattle.calendar.specs.Places.{held}
use Rattle.calendar.specs.Queues.{queue}
use Rattle.rules.specs.Order.{lapses_first}
use Rattle.ledger.specs.Entries.{entries}
use Rattle.ledger.proofs.Lapses.{none_before_least, purged_none}
use Rattle.ledger.proofs.departed.Ledger.purge.Goals as goal

pub invariant_of-self-clause-later : goal.invariant_of-self-clause-later
invariant_of-self-clause-later c =
    let es = held c.take_lapsed-least.new.calendar c.take_lapsed-least.new.places in
    let earliest : IfSome c.take_lapsed-least.result (λ e. c.map_or-self.result ≡ e.lapse) = search rules in
    none_before_least c.take_lapsed-least.result _ es c.take_lapsed-least.ensures.answer earliest

pub returns-else-self-clock : goal.returns-else-self-clock
returns-else-self-clock c =
    let l = c.args.self.now in
    ap (queue lapses_first) (sym (purged_none c.args.clock l.earliest (entries l) (omega arith) l.later))
