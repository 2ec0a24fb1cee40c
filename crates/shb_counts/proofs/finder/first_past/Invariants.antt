-- The first one that is past the limit is between the two.
use Rattle.std.proofs.Common.{◌-◌}
use Rattle.shb_counts.proofs.FinderLemmas.{IsBetween}
use Rattle.shb_counts.proofs.finder.first_past.Given as goal

abbrev pub invariant-loop-low : goal.invariant-loop-low
invariant-loop-low l = IsBetween l.limit l.entries l.from l.to l.low l.high

abbrev pub decreases-loop-low : goal.decreases-loop-low
decreases-loop-low l = l.high - l.low
