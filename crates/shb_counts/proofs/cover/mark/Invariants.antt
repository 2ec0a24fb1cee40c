use Rattle.std.proofs.Common.{◌≡◌, ◌-◌, ◌<◌, ◌≤◌, ℕ, get_or}
use Rattle.shb_counts.specs.Covers.{AreMarked, AreRuns}
use Rattle.shb_counts.proofs.cover.mark.Given as goal

abbrev pub invariant-loop-at : goal.invariant-loop-at
invariant-loop-at l = record {
  low : l.at ≤ l.window.end;
  marked : AreMarked l.at l.window.end l.later l.fn.first l.first;
  below : (j : ℕ) → j < l.window.start → get_or l.first j 0 ≡ get_or l.fn.first j 0;
  filled : (j : ℕ) → l.at ≤ j → j < l.window.end → 0 < get_or l.first j 0;
  runs : AreRuns l.first l.runs;
}

abbrev pub decreases-loop-at : goal.decreases-loop-at
decreases-loop-at l = l.at - l.window.start
