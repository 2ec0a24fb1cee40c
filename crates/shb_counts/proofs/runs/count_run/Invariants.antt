-- The races of the accesses so far are counted.
use Rattle.std.proofs.Common.{◌≡◌, ◌++◌, ℕ, List, length, map, take}
use Rattle.shb_lines.specs.declared.event.Pair.{Pair}
use Rattle.shb_stamps.specs.Accesses.{races_with}
use Rattle.shb_counts.specs.Runs.{HasAdded, IsRun, IsSummed}
use Rattle.shb_counts.proofs.runs.count_run.Given as goal

abbrev pub invariant-loop-access : goal.invariant-loop-access
invariant-loop-access l = record {
  order : l.finder.order ≡ l.fn.finder.order;
  races : l.races.items ≡ l.fn.races.items ++ map (λ access. length (races_with l.fn.finder.order.now.trace access.event)) (take l.access-index l.run);
  added : (numbers : List ℕ) (pairs : List Pair) → IsRun l.fn.finder.order.now numbers l.entries l.run → IsSummed l.fn.finder.order.now.trace numbers pairs l.fn.sums
      → HasAdded l.fn.finder.order.now.trace numbers l.entries pairs (map (λ access. access.event) (take l.access-index l.run)) l.sums;
}
