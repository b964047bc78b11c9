use Rattle.std.proofs.Common.{◌≡◌, ◌<◌, length, ap, ◌∙◌, arith, rules, tests}
use Rattle.std.specs.Option.{option_map}
use Rattle.std.proofs.lemmas.List.{get_or_default}
use Rattle.calendar.specs.Queues.{first}
use Rattle.table.specs.Keys.{no_queue, waiting}
use Rattle.table.specs.View.{live_of}
use Rattle.table.proofs.Picking.{first_number}
use Rattle.table.proofs.live.Table.pick.Goals as goal

pub returns : goal.returns
returns c =
    let t = c.args.self.now in
    let told : c.map.result ≡ option_map (λ k. k.number) c.least.result = search (rules, tests) in
    let short : c.args.core < length t.ready = omega arith in
    told
    ∙ ap (option_map (λ k. k.number)) c.least.ensures
    ∙ ap (λ q. option_map (λ k. k.number) (first (waiting q))) (get_or_default t.ready c.args.core c.index-self-core.result no_queue short)
    ∙ ap (λ ks. option_map (λ k. k.number) (first ks)) (t.tied c.args.core c.requires)
    ∙ first_number c.args.core (live_of t)
