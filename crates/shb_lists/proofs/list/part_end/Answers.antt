use Rattle.std.proofs.Common.{arith, inr}
use Rattle.shb_lists.proofs.GivenLemmas.{sum_next}
use Rattle.shb_lists.proofs.list.part_end.Goals as goal

pub loop-to-preserved : goal.loop-to-preserved
loop-to-preserved c =
    let before = c.loop-to.invariant in
    let more = before.more in
    record {
      more = omega (arith, more);
      within = omega arith;
      races = sum_next c.args.list.now c.args.from c.loop-to.to _ c.loop-to.races c.from-races-in-loop-to.result (omega (arith, more)) (omega arith) before.races c.from-races-in-loop-to.ensures;
      few = inr (let room = c.has_room.ensures.0 c.if-not-has_room.false in let is = c.from-races-in-loop-to.ensures in omega (arith, room, is));
    }
