use Rattle.table.proofs.Ties.{tied_new}
use Rattle.table.proofs.live.Table.new.Goals as goal

pub invariant_of-result-clause-tied : goal.invariant_of-result-clause-tied
invariant_of-result-clause-tied c = tied_new c.new-2.result c.new.result.items c.new-2.ensures c.new.ensures
