use Rattle.shb_orders.proofs.Words.{AreEach, AreLearnedTimes}
use Rattle.shb_orders.proofs.clock_versions.times_of.Given as goal

abbrev pub invariant-loop-t : goal.invariant-loop-t
invariant-loop-t l = AreEach (AreLearnedTimes l.linked.events.now) l.t l.times.items
