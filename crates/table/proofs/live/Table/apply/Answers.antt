use Rattle.std.proofs.Common.{Err, refl, ap}
use Rattle.std.proofs.lemmas.Result.{err_from_is_err_and}
use Rattle.table.specs.View.{live_of}
use Rattle.table.proofs.Events.{refused_answer, refused_live, done_answer, done_live}
use Rattle.table.proofs.Search.{found, missing}
use Rattle.table.proofs.live.Table.apply.Goals as goal

pub returns-in_err-place-clause-answer : goal.returns-in_err-place-clause-answer
returns-in_err-place-clause-answer c =
    let m = missing c.args.number _ (live_of c.args.self.now) c.in_err-place.ensures in
    let p = err_from_is_err_and c.from_residual.result c.from_residual.ensures.1 in
    rw (p.1, p.2, m.none) (ap Err m.why)

pub returns-in_err-place-clause-live : goal.returns-in_err-place-clause-live
returns-in_err-place-clause-live c =
    let m = missing c.args.number _ (live_of c.args.self.now) c.in_err-place.ensures in
    rw m.none refl

pub change-requires : goal.change-requires
change-requires c =
    let t = c.args.self.now in
    let at = found c.args.number c.in_ok-place.place (live_of t) c.in_ok-place.ensures in
    (rw c.deref.ensures.0 (t.fitting c.in_ok-place.place _ at.within), t.clocked)

pub returns-in_err-change-clause-answer : goal.returns-in_err-change-clause-answer
returns-in_err-change-clause-answer c =
    let t = c.args.self.now in
    let at = found c.args.number c.in_ok-place.place (live_of t) c.in_ok-place.ensures in
    let p = err_from_is_err_and c.from_residual-in_err-change.result c.from_residual-in_err-change.ensures.1 in
    rw (p.1, p.2) (refused_answer c.args.event c.args.number t.clock (live_of t) c.in_ok-place.place at _ _ (rw c.deref.ensures.0 at c.in_err-change.ensures.answer))

pub returns-in_err-change-clause-live : goal.returns-in_err-change-clause-live
returns-in_err-change-clause-live c =
    let t = c.args.self.now in
    let at = found c.args.number c.in_ok-place.place (live_of t) c.in_ok-place.ensures in
    refused_live c.args.event c.args.number t.clock (live_of t) c.in_ok-place.place at _ _ (rw c.deref.ensures.0 at c.in_err-change.ensures.answer)

pub replace-requires : goal.replace-requires
replace-requires c =
    let t = c.args.self.now in
    let at = found c.args.number c.in_ok-place.place (live_of t) c.in_ok-place.ensures in
    record {
      within = at.within;
      fits = rw (c.in_ok-change.ensures.next, c.deref.ensures.0) (c.requires _ (t.fitting c.in_ok-place.place _ at.within));
    }

pub returns-clause-answer : goal.returns-clause-answer
returns-clause-answer c =
    let t = c.args.self.now in
    let at = found c.args.number c.in_ok-place.place (live_of t) c.in_ok-place.ensures in
    rw (c.in_ok-change.ensures.next, c.deref.ensures.0) (done_answer c.args.event c.args.number t.clock (live_of t) c.in_ok-place.place at _ (rw c.deref.ensures.0 at c.in_ok-change.ensures.answer))

pub returns-clause-live : goal.returns-clause-live
returns-clause-live c =
    let t = c.args.self.now in
    let at = found c.args.number c.in_ok-place.place (live_of t) c.in_ok-place.ensures in
    rw (c.replace.ensures.live, c.in_ok-change.ensures.next, c.deref.ensures.0) (done_live c.args.event c.args.number t.clock (live_of t) c.in_ok-place.place at _)
