-- The races with the entries so far are added.
use Rattle.std.proofs.Common.{◌++◌, ℕ, List, map}
use Rattle.std.specs.Prelude.{All, slice_range}
use Rattle.shb_lines.specs.declared.event.Event.{Event}
use Rattle.shb_lines.specs.declared.event.Pair.{Pair}
use Rattle.shb_counts.specs.Accesses.{IsEntry}
use Rattle.shb_counts.specs.Covers.{IsAt}
use Rattle.shb_counts.specs.Runs.{race_of}
use Rattle.shb_counts.specs.Sums.{AreSumsOf}
use Rattle.shb_counts.proofs.runs.add_window.Given as goal

abbrev pub invariant-loop-j : goal.invariant-loop-j
invariant-loop-j l = (trace : List Event) (numbers : List ℕ) (pairs : List Pair) → AreSumsOf trace numbers pairs l.fn.table.sums.items → All (IsEntry trace numbers) l.entries → IsAt trace numbers l.access l.access.event
    → AreSumsOf trace numbers (pairs ++ map (race_of l.access.event) (slice_range l.entries l.fn.window.start l.j)) l.table.sums.items
