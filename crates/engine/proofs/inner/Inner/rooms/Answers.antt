use Rattle.std.proofs.Common.{◌<◌, ◌≤◌, ◌∷◌, [], ◌++◌, length, sym, ◌∙◌, arith, take_all}
use Rattle.std.proofs.lemmas.List.{take_more}
use Rattle.rules.specs.Parts.{rooms}
use Rattle.rules.proofs.Basics.{length_rooms}
use Rattle.rules.proofs.Rooms.{get_or_rooms}
use Rattle.engine.specs.View.{bare, view}
use Rattle.engine.proofs.inner.Inner.rooms.Goals as goal

pub loop-core-preserved : goal.loop-core-preserved
loop-core-preserved c =
    let i = c.args.self.now in
    let s = bare c.args.whole.parts i in
    let n = c.loop-core.core in
    let long : n < length (rooms s (view i)) = omega (arith, length_rooms s (view i), c.loop-core-test.true) in
    let here = c.room.ensures ∙ sym (get_or_rooms s (view i) n) in (
      omega arith,
      c.push.ensures.items ∙ (λ k. c.loop-core.invariant.1 k ++ here k ∷ []) ∙ sym (take_more (rooms s (view i)) n 0 long),
    )

pub returns : goal.returns
returns c =
    let i = c.args.self.now in
    let s = bare c.args.whole.parts i in
    let long : length (rooms s (view i)) ≤ c.loop-core.core = omega (arith, length_rooms s (view i)) in
    c.loop-core.invariant.1 ∙ take_all _ _ long
