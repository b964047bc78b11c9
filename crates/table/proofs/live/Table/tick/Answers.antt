use Rattle.std.proofs.Common.{◌≡◌, ◌+◌, length, map, ap, ◌∙◌, arith}
use Rattle.std.specs.List.{refill}
use Rattle.std.proofs.lemmas.List.{length-map}
use Rattle.arrayvec.proofs.ArrayVecLemmas.{items-with_items}
use Rattle.table.specs.Calls.{ticked}
use Rattle.table.specs.View.{live_of}
use Rattle.table.proofs.Fits.{all_ticked}
use Rattle.table.proofs.live.Table.tick.Goals as goal

passed : (c : goal.After-self-1) → c.pass_rows.new.rows ≡ map (ticked c.args.picks.now.names (c.args.self.now.clock + 1)) (live_of c.args.self.now)
passed c =
    c.pass_rows.ensures.rows ∙ ap (map (ticked c.args.picks.now.names (c.args.self.now.clock + 1))) c.deref_mut.ensures.value

long : (c : goal.After-self-1) → length c.pass_rows.new.rows ≡ length (live_of c.args.self.now)
long c =
    ap length (passed c)
    ∙ length-map (live_of c.args.self.now) (ticked c.args.picks.now.names (c.args.self.now.clock + 1))

-- the rows are those that the pass left
left : (c : goal.After-self-1) → refill (length (live_of c.args.self.now)) (live_of c.args.self.now) c.pass_rows.new.rows ≡ c.pass_rows.new.rows
left c = items-with_items c.args.self.now.rows c.pass_rows.new.rows (long c)

pub invariant_of-self-clause-counted : goal.invariant_of-self-clause-counted
invariant_of-self-clause-counted c = rw (left c) (omega (arith, long c, c.args.self.now.counted))

pub invariant_of-self-clause-fitting : goal.invariant_of-self-clause-fitting
invariant_of-self-clause-fitting c =
    let t = c.args.self.now in
    rw (left c, passed c) (all_ticked t.clock (live_of t) t.fitting c.args.picks.now.names)

pub invariant_of-self-clause-tied : goal.invariant_of-self-clause-tied
invariant_of-self-clause-tied c = rw (left c) c.pass_rows.ensures.tied
