use Rattle.shb_orders.proofs.ClockLemmas.{HasEntries}
use Rattle.shb_orders.proofs.full_clocks.clock_before.Given as goal

abbrev pub invariant-loop-t : goal.invariant-loop-t
invariant-loop-t l = HasEntries l.linked.events.now l.e l.t l.clock.items
