-- The races with the entries so far are found.
use Rattle.std.proofs.Common.{◌≡◌, ◌-◌, ◌≤◌, length}
use Rattle.shb_counts.specs.Windows.{AreBelow, IsLooked}
use Rattle.shb_counts.proofs.finder.Finder.look.Given as goal

abbrev pub invariant-loop-access : goal.invariant-loop-access
invariant-loop-access l = record {
  looked : IsLooked l.fn.self.order.now.trace l.access.event l.entries l.at.from l.races l.self.windows.items;
  few : l.at.threads ≤ l.at.from;
  below : AreBelow l.fn.self.order.now.trace l.access.event l.self.below.items;
  order : l.self.order ≡ l.fn.self.order;
}

abbrev pub decreases-loop-access : goal.decreases-loop-access
decreases-loop-access l = length l.entries - l.at.from
