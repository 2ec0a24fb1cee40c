-- Those before are like the first one.
use Rattle.shb_counts.specs.Runs.{AreLike}
use Rattle.shb_counts.proofs.runs.run_end.Given as goal

abbrev pub invariant-loop-end : goal.invariant-loop-end
invariant-loop-end l = AreLike l.list l.start l.end
