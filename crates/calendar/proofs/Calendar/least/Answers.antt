use Rattle.std.proofs.Common.{◌≡◌, length, get_or, Some, None, rules}
use Rattle.std.specs.Option.{MatchOption}
use Rattle.calendar.specs.Places.{held, LeastAt}
use Rattle.calendar.proofs.Steps.{least_is, least_read}
use Rattle.calendar.proofs.Calendar.least.Goals as goal

pub returns : goal.returns
returns g c =
    let o = g.met.T.Order.total in
    let xs = held c.args.self.now c.args.places.now in
    let at : MatchOption c.least_place.result (length xs ≡ 0) (LeastAt g.T.Order.before xs (length xs)) = search rules in
    let read : MatchOption c.least_place.result (c.map.result ≡ None) (λ p. (x : g.row.T.Denot) × (c.map.result ≡ Some x) × (x ≡ get_or xs p x)) = search rules in
    let is = least_read o xs _ _ at read in
    record { answer = is; least = least_is o xs _ is }
