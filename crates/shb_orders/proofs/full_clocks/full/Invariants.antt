use Rattle.std.proofs.Common.{◌≡◌}
use Rattle.shb_orders.proofs.Words.{AreEach, IsClockBefore}
use Rattle.shb_orders.proofs.full_clocks.full.Given as goal

abbrev pub invariant-loop-e : goal.invariant-loop-e
invariant-loop-e l = record {
  of_trace : l.sweep.trace ≡ l.linked.events.now;
  next : l.sweep.next ≡ l.e;
  clocks : AreEach (IsClockBefore l.linked.events.now) l.e l.clocks.items;
}
