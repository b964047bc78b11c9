use Rattle.std.proofs.Common.{eqb, ap, ◌∙◌, rules, tests}
use Rattle.std.specs.Option.{ok_or}
use Rattle.std.proofs.lemmas.Iterator.{YieldsList-from_slice}
use Rattle.std.proofs.lemmas.Iterator.Search.{position_from_yields_List}
use Rattle.terms.specs.declared.refusals.Refusal.TheVariants.{NoReservation}
use Rattle.table.specs.View.{live_of}
use Rattle.table.proofs.live.Table.seek.Goals as goal

pub returns : goal.returns
returns c =
    c.ok_or.ensures.value
    ∙ ap (λ o. ok_or o NoReservation) (position_from_yields_List (λ r. eqb r.number c.args.number) _ _ c.position.result c.position.ensures.ran (YieldsList-from_slice (live_of c.args.self.now) cc) (λ x b q k. search (rules, tests)))
