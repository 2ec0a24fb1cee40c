-- No event from e on and before the end writes the variable.
use Rattle.std.proofs.Common.{◌≤◌, ◌<◌, ℕ}
use Rattle.shb_links.proofs.Words.{WritesVariable}
use Rattle.shb_links.proofs.links.latest_write.Given as goal

abbrev pub invariant-loop-e : goal.invariant-loop-e
invariant-loop-e l = (l.e ≤ l.end) × ((m : ℕ) → l.e ≤ m → m < l.end → ¬ WritesVariable l.events l.variable m)

abbrev pub decreases-loop-e : goal.decreases-loop-e
decreases-loop-e l = l.e
