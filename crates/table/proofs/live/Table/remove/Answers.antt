use Rattle.std.proofs.Common.{◌<◌, Err, Ok, sym, ap, ◌∙◌, subst}
use Rattle.std.proofs.lemmas.Result.{err_from_is_err_and}
use Rattle.table.specs.Keys.{less_on, waiting_on}
use Rattle.table.specs.View.{live_of}
use Rattle.table.proofs.Fits.{all_removed, core_at}
use Rattle.table.proofs.Search.{found, missing}
use Rattle.table.proofs.Ties.{tied_less}
use Rattle.table.proofs.live.Table.remove.Goals as goal

pub returns-in_err-place-clause-answer : goal.returns-in_err-place-clause-answer
returns-in_err-place-clause-answer c =
    let m = missing c.args.number _ (live_of c.args.self.now) c.in_err-place.ensures in
    let p = err_from_is_err_and c.from_residual.result c.from_residual.ensures.1 in
    rw (p.1, p.2, m.none) (ap Err m.why)

pub returns-in_err-place-clause-live : goal.returns-in_err-place-clause-live
returns-in_err-place-clause-live c =
    let m = missing c.args.number _ (live_of c.args.self.now) c.in_err-place.ensures in
    sym m.stays

pub unfile-requires : goal.unfile-requires
unfile-requires c =
    let t = c.args.self.now in
    let at = found c.args.number c.in_ok-place.place (live_of t) c.in_ok-place.ensures in
    subst (λ r. r.core < 8) (sym c.remove-row.ensures.value) (core_at t.clock (live_of t) t.fitting c.in_ok-place.place c.remove-row.result at.within)

pub invariant_of-self-clause-fitting : goal.invariant_of-self-clause-fitting
invariant_of-self-clause-fitting c =
    let t = c.args.self.now in
    rw c.remove-row.ensures.items (all_removed t.clock (live_of t) t.fitting c.in_ok-place.place)

pub invariant_of-self-clause-tied : goal.invariant_of-self-clause-tied
invariant_of-self-clause-tied c =
    let t = c.args.self.now in
    let at = found c.args.number c.in_ok-place.place (live_of t) c.in_ok-place.ensures in
    rw c.remove-row.ensures.items
    (tied_less (live_of t) t.ready t.tied c.in_ok-place.place c.remove-row.result at.within c.unfile.new.ready (λ k h. c.unfile.ensures k h ∙ ap (λ r. less_on k r (waiting_on k t.ready)) c.remove-row.ensures.value))

pub returns-clause-answer : goal.returns-clause-answer
returns-clause-answer c =
    let at = found c.args.number c.in_ok-place.place (live_of c.args.self.now) c.in_ok-place.ensures in
    rw (at.found c.remove-row.result) (ap Ok c.remove-row.ensures.value)

pub returns-clause-live : goal.returns-clause-live
returns-clause-live c =
    let at = found c.args.number c.in_ok-place.place (live_of c.args.self.now) c.in_ok-place.ensures in
    c.remove-row.ensures.items ∙ sym at.removes
