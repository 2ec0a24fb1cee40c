-- No event from e on and before the end is of the thread.
use Rattle.std.proofs.Common.{◌≤◌, ◌<◌, ℕ}
use Rattle.shb_links.proofs.Words.{OfThread}
use Rattle.shb_links.proofs.links.latest_of_thread.Given as goal

abbrev pub invariant-loop-e : goal.invariant-loop-e
invariant-loop-e l = (l.e ≤ l.end) × ((m : ℕ) → l.e ≤ m → m < l.end → ¬ OfThread l.events l.thread m)

abbrev pub decreases-loop-e : goal.decreases-loop-e
decreases-loop-e l = l.e
