use Rattle.std.proofs.Common.{None, ◌∙◌, rules, tests}
use Rattle.table.specs.View.{live_of}
use Rattle.table.proofs.Picking.{made_by, named, names_dealt}
use Rattle.table.proofs.live.Table.picks.Goals as goal

pub returns : goal.returns
returns c =
    let rs = live_of c.args.self.now in
    made_by _ _ (named c.args.cores rs) (λ i y q k. search (rules, tests)) c.from_fn.result 8 None c.from_fn.ensures.items ∙ names_dealt c.args.cores rs
