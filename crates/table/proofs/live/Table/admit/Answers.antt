use Rattle.std.proofs.Common.{◌≡◌, true, refl, arith}
use Rattle.std.proofs.lemmas.List.Elements.{All-push}
use Rattle.table.specs.Rows.{fit}
use Rattle.table.specs.View.{live_of}
use Rattle.table.proofs.Fits.{fit_newcomer}
use Rattle.table.proofs.Ties.{tied_push}
use Rattle.table.proofs.live.Table.admit.Goals as goal

pub invariant_of-self-clause-fitting : goal.invariant_of-self-clause-fitting
invariant_of-self-clause-fitting c =
    let t = c.args.self.now in
    let fits =
    fit_newcomer t.clock c.args.number c.budget.result c.period.result c.args.parts c.args.core c.budget.ensures.low (omega arith) c.period.ensures.high c.if-core-ge-MOST_CORES.false in
    rw c.push.ensures.items (All-push (λ r. fit t.clock r ≡ true) (live_of t) _ t.fitting fits)

pub invariant_of-self-clause-tied : goal.invariant_of-self-clause-tied
invariant_of-self-clause-tied c =
    let t = c.args.self.now in
    rw c.push.ensures.items (tied_push (live_of t) _ t.ready refl t.tied)
