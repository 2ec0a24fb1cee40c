-- The races of the windows so far are added.
use Rattle.std.proofs.Common.{◌++◌, ℕ, List, map, take}
use Rattle.std.specs.Prelude.{All, flat_map, slice_range}
use Rattle.shb_lines.specs.declared.event.Event.{Event}
use Rattle.shb_lines.specs.declared.event.Pair.{Pair}
use Rattle.shb_counts.specs.Accesses.{IsEntry}
use Rattle.shb_counts.specs.Covers.{IsAt}
use Rattle.shb_counts.specs.Runs.{race_of}
use Rattle.shb_counts.specs.Sums.{AreSumsOf}
use Rattle.shb_counts.proofs.runs.add_windows.Given as goal

abbrev pub invariant-loop-window : goal.invariant-loop-window
invariant-loop-window l = (trace : List Event) (numbers : List ℕ) (pairs : List Pair) → AreSumsOf trace numbers pairs l.fn.table.sums.items → All (IsEntry trace numbers) l.entries → IsAt trace numbers l.access l.access.event
    → AreSumsOf trace numbers (pairs ++ flat_map (λ w. map (race_of l.access.event) (slice_range l.entries w.start w.end)) (take l.window-index l.windows)) l.table.sums.items
