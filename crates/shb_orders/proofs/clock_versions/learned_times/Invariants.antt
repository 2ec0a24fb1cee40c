use Rattle.shb_orders.proofs.LearnedLemmas.{AreTimes}
use Rattle.shb_orders.proofs.clock_versions.learned_times.Given as goal

abbrev pub invariant-loop-e : goal.invariant-loop-e
invariant-loop-e l = AreTimes l.linked.events.now l.t l.e l.times.items
