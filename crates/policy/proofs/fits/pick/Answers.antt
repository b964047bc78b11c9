use Rattle.std.proofs.Common.{◌≡◌, length, rules, arith}
use Rattle.policy.proofs.Walk.{named, turned, too_small, left}
use Rattle.policy.proofs.fits.pick.Goals as goal
use Rattle.policy.proofs.fits.pick.Goals.{then-parts-room+then-is_none_or, else-parts-room, else-parts-room-via-then-parts-room+else-is_none_or, else-parts-room-via-else-parts-room}

pub returns : goal.returns
returns g c prefers order tells =
    let held = c.loop-core.invariant prefers order tells in
    let all : c.loop-core.core ≡ length c.args.rooms.now = omega arith in
    let answer = named prefers c.args.rooms.now c.args.parts order c.loop-core.named (rw all at held) in
    search rules

pub loop-core-preserved : goal.loop-core-preserved
loop-core-preserved g c prefers order tells =
    let says = goal.F-post g c.args.prefers in
    let held = c.loop-core.invariant prefers order tells in
    elim c.if-parts-room.branch [
      | then-parts-room+then-is_none_or w ↦
          let is = w.is_none_or.ensures in
          rw w.named-is (turned prefers _ _ order _ says tells _ held w.if-parts-room.true _ (search rules) w.if-is_none_or.true)
      | else-parts-room w ↦
          elim w.else-parts-room.branch [
            | else-parts-room-via-then-parts-room+else-is_none_or w' ↦
                let is = w'.is_none_or.ensures in
                rw w.named-is (left prefers _ _ order _ says tells _ held _ (search rules) w'.if-is_none_or.false)
            | else-parts-room-via-else-parts-room w' ↦ rw w.named-is (too_small prefers _ _ order _ _ held w'.if-parts-room.false)
          ]
    ]
