-- Some are gathered, and the others are those from the place back.
use Rattle.std.proofs.Common.{ℕ, List}
use Rattle.shb_nearest.proofs.Words.{AreWaiting, Event, Spot}
use Rattle.shb_nearest.proofs.Chains.{AreGathered}
use Rattle.shb_nearest.proofs.log.gather_back.Given as goal

abbrev pub invariant-loop-entry : goal.invariant-loop-entry
invariant-loop-entry l = (trace : List Event) (spots : List Spot) (x n : ℕ) → AreWaiting trace spots x n l.entries l.newest → AreGathered trace spots x n l.entries l.place l.accesses.items

abbrev pub decreases-loop-entry : goal.decreases-loop-entry
decreases-loop-entry l = l.place
