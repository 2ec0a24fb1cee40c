-- What was passed so far needs a look.
use Rattle.shb_nearest.proofs.Words.{NeedLook}
use Rattle.shb_nearest.proofs.rivals.index_after.Given as goal

abbrev pub invariant-loop-from : goal.invariant-loop-from
invariant-loop-from l = NeedLook l.kept l.below l.since l.from

abbrev pub decreases-loop-from : goal.decreases-loop-from
decreases-loop-from l = l.from
