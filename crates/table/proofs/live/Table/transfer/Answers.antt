use Rattle.std.proofs.Common.{◌≡◌, true, Err, refl, ap}
use Rattle.std.proofs.lemmas.Bool.{lt-ltb}
use Rattle.std.proofs.lemmas.Result.{err_from_is_err_and}
use Rattle.table.specs.Calls.{is_core, newcomer}
use Rattle.table.specs.View.{live_of}
use Rattle.table.proofs.Fits.{fit_moved}
use Rattle.table.proofs.Events.{transfer_done}
use Rattle.table.proofs.Search.{found, missing}
use Rattle.table.proofs.live.Table.transfer.Goals as goal

pub returns-in_err-place-clause-answer : goal.returns-in_err-place-clause-answer
returns-in_err-place-clause-answer c =
    let core : is_core c.args.core ≡ true = lt-ltb c.args.core 8 c.if-core-ge-MOST_CORES.false in
    let m = missing c.args.number _ (live_of c.args.self.now) c.in_err-place.ensures in
    let p = err_from_is_err_and c.from_residual.result c.from_residual.ensures.1 in
    rw (p.1, p.2, m.none, core) (ap Err m.why)

pub returns-in_err-place-clause-live : goal.returns-in_err-place-clause-live
returns-in_err-place-clause-live c =
    let core : is_core c.args.core ≡ true = lt-ltb c.args.core 8 c.if-core-ge-MOST_CORES.false in
    let m = missing c.args.number _ (live_of c.args.self.now) c.in_err-place.ensures in
    rw (m.none, core) refl

pub replace-requires : goal.replace-requires
replace-requires c =
    let t = c.args.self.now in
    let at = found c.args.number c.in_ok-place.place (live_of t) c.in_ok-place.ensures in
    record {
      within = at.within;
      fits = rw c.deref.ensures.0 (fit_moved t.clock (live_of t) t.fitting c.in_ok-place.place _ at.within c.args.core c.if-core-ge-MOST_CORES.false);
    }

pub returns-clause-answer : goal.returns-clause-answer
returns-clause-answer c =
    let core : is_core c.args.core ≡ true = lt-ltb c.args.core 8 c.if-core-ge-MOST_CORES.false in
    let at = found c.args.number c.in_ok-place.place (live_of c.args.self.now) c.in_ok-place.ensures in
    rw (core, at.found (newcomer 0 0 0 0 0 0)) refl

pub returns-clause-live : goal.returns-clause-live
returns-clause-live c =
    let core : is_core c.args.core ≡ true = lt-ltb c.args.core 8 c.if-core-ge-MOST_CORES.false in
    let at = found c.args.number c.in_ok-place.place (live_of c.args.self.now) c.in_ok-place.ensures in
    rw (c.replace.ensures.live, c.deref.ensures.0) (transfer_done c.args.number c.args.core (live_of c.args.self.now) c.in_ok-place.place at _ core)
