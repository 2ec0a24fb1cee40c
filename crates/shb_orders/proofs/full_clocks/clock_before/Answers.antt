use Rattle.std.proofs.Common.{arith, subst, sym}
use Rattle.shb_orders.proofs.Words.{IsClockBefore}
use Rattle.shb_orders.proofs.ClockLemmas.{clock_whole}
use Rattle.shb_orders.proofs.full_clocks.clock_before.Goals as goal

pub returns : goal.returns
returns c =
    subst (IsClockBefore c.args.linked.now.events.now c.args.e) (sym c.new.ensures)
    (clock_whole c.args.linked.now.events.now c.args.linked.now.sizes c.args.e c.loop-t.t c.loop-t.clock.items c.args.linked.now.within (omega (arith, c.loop-t-test.false)) c.loop-t.invariant)
