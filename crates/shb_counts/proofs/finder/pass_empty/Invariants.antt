-- What was found is all that races, up to where the threads are passed.
use Rattle.std.proofs.Common.{◌-◌, ◌≤◌, ℕ, List, length}
use Rattle.shb_lines.specs.declared.event.Event.{Event}
use Rattle.shb_counts.specs.Accesses.{AreEntries, IsAccess}
use Rattle.shb_counts.specs.Windows.{AreBelow, IsLooked}
use Rattle.shb_counts.specs.declared.finder.Window.{Window}
use Rattle.shb_counts.proofs.finder.pass_empty.Given as goal

abbrev pub invariant-loop-access : goal.invariant-loop-access
invariant-loop-access l = record {
  looked : (trace : List Event) (numbers : List ℕ) (races : ℕ) (windows : List Window) → IsAccess trace numbers l.access → AreEntries trace numbers l.access.variable l.access.writes l.entries → AreBelow trace l.access.event l.below
      → IsLooked trace l.access.event l.entries l.fn.passed.from races windows → IsLooked trace l.access.event l.entries l.at.from races windows;
  forward : l.fn.passed.from ≤ l.at.from;
  few : l.at.threads ≤ l.at.from;
}

abbrev pub decreases-loop-access : goal.decreases-loop-access
decreases-loop-access l = length l.entries - l.at.from
