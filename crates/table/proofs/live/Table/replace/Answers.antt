use Rattle.std.proofs.Common.{◌≡◌, true, length, set, ap, ◌∙◌, arith}
use Rattle.std.specs.List.{refill}
use Rattle.std.proofs.lemmas.List.{length-set}
use Rattle.std.proofs.lemmas.List.Elements.{All-set}
use Rattle.arrayvec.proofs.ArrayVecLemmas.{items-with_items}
use Rattle.table.specs.Rows.{fit}
use Rattle.table.specs.View.{live_of}
use Rattle.table.proofs.Fits.{core_at, fit_core}
use Rattle.table.proofs.Ties.{room_less, tied_next}
use Rattle.table.proofs.live.Table.replace.Goals as goal

rows_are : (c : goal.After-refile) → refill (length (live_of c.args.self.now)) (live_of c.args.self.now) (set c.deref_mut.result.now c.args.place c.args.row) ≡ set (live_of c.args.self.now) c.args.place c.args.row
rows_are c =
    let t = c.args.self.now in
    let next = ap (λ xs. set xs c.args.place c.args.row) c.deref_mut.ensures.value in
    items-with_items t.rows (set c.deref_mut.result.now c.args.place c.args.row) (ap length next ∙ length-set (live_of t) c.args.place c.args.row) ∙ next

pub refile-requires : goal.refile-requires
refile-requires c =
    let t = c.args.self.now in
    let rs = live_of t in
    record {
      from = rw c.deref.ensures.0 (core_at t.clock rs t.fitting c.args.place _ c.requires.within);
      to = fit_core t.clock c.args.row c.requires.fits;
      room = rw c.deref.ensures.0 (room_less rs t.ready t.tied c.args.place _ c.requires.within t.counted);
    }

pub invariant_of-self-clause-counted : goal.invariant_of-self-clause-counted
invariant_of-self-clause-counted c =
    let rs = live_of c.args.self.now in
    rw (rows_are c) (omega (arith, length-set rs c.args.place c.args.row, c.args.self.now.counted))

pub invariant_of-self-clause-fitting : goal.invariant_of-self-clause-fitting
invariant_of-self-clause-fitting c =
    let t = c.args.self.now in
    rw (rows_are c) (All-set (λ r. fit t.clock r ≡ true) (live_of t) c.args.place c.args.row c.requires.fits t.fitting)

pub invariant_of-self-clause-tied : goal.invariant_of-self-clause-tied
invariant_of-self-clause-tied c =
    let t = c.args.self.now in
    rw (rows_are c) (tied_next (live_of t) t.ready t.tied c.args.place _ c.requires.within c.refile.new.ready c.args.row (rw c.deref.ensures.0 at c.refile.ensures))
