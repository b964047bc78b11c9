use Rattle.std.proofs.Common.{◌≡◌, length, ◌∙◌, arith, rules, tests}
use Rattle.std.proofs.lemmas.Bool.{cond-true}
use Rattle.calendar.specs.Places.{held}
use Rattle.calendar.specs.Queues.{filed, queue}
use Rattle.rules.specs.System.{live_limit}
use Rattle.table.specs.Keys.{waiting}
use Rattle.table.specs.Order.{ahead, no_later}
use Rattle.table.proofs.Waiting.{first_put, roomy}
use Rattle.table.proofs.keys.Queue.put.Goals as goal

pub invariant_of-self : goal.invariant_of-self
unfolding waiting
invariant_of-self c =
    let q = c.args.self.now in
    let ks = queue no_later (held q.calendar q.places) in
    let ls = queue no_later (held c.put.new.self c.put.new.places) in
    let long : length q.places ≡ live_limit = omega arith in
    let next : ls ≡ filed no_later c.args.key ks = c.put.ensures.ordered ∙ cond-true _ _ _ (roomy q.calendar.count q.places long c.requires) in
    let least : c.map_or.result ≡ ahead c.args.key q.least = search (rules, tests) in
    record { known = first_put c.args.key c.map_or.result q.least ks ls q.known least next }

pub returns : goal.returns
unfolding waiting
returns c =
    let q = c.args.self.now in
    let long : length q.places ≡ live_limit = omega arith in
    c.put.ensures.ordered ∙ cond-true _ _ _ (roomy q.calendar.count q.places long c.requires)
