-- The races of the accesses so far are counted.
use Rattle.std.proofs.Common.{◌≡◌, ◌-◌, ◌≤◌, ℕ, Bool, List, length, map}
use Rattle.std.specs.Prelude.{slice_range}
use Rattle.shb_stamps.specs.Accesses.{races_with}
use Rattle.shb_counts.specs.Runs.{AreCountable, IsSummed}
use Rattle.shb_counts.specs.Sums.{pairs_of}
use Rattle.shb_counts.proofs.runs.count_races.Given as goal

abbrev pub invariant-loop-start : goal.invariant-loop-start
invariant-loop-start l = record {
  within : l.start ≤ length l.list;
  order : l.finder.order.now ≡ l.fn.order;
  races : l.races.items ≡ map (λ access. length (races_with l.fn.order.trace access.event)) (slice_range l.list 0 l.start);
  sums : (flags : List Bool) (numbers : List ℕ) → AreCountable l.fn.order flags numbers l.accesses l.list → IsSummed l.fn.order.trace numbers (pairs_of l.fn.order.trace (slice_range l.list 0 l.start)) l.sums;
}

abbrev pub decreases-loop-start : goal.decreases-loop-start
decreases-loop-start l = length l.list - l.start
