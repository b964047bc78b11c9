-- The order of the ledger's entries is total.
-- Assumes nothing.
use Rattle.std.proofs.Common.{◌≡◌, ◌≤◌, true, arith}
use Rattle.std.proofs.lemmas.Bool.Decides.{nat_tests}
use Rattle.calendar.specs.Orders.{Total}
use Rattle.calendar.proofs.Ranks.{total_by}
use Rattle.rules.specs.declared.types.Entry.{Entry}
use Rattle.rules.specs.Order.{entry_figures, lapses_first}

pub order : Total lapses_first
order = total_by entry_figures (λ x y e. grind arith)

-- one that goes before another does not lapse after it
pub first_lapses : (x y : Entry) → lapses_first x y ≡ true → x.lapse ≤ y.lapse
first_lapses x y h = grind (arith, nat_tests)
