use Rattle.std.proofs.Common.{◌-◌, ◌≤◌, length}
use Rattle.std.specs.Prelude.{slice_range}
use Rattle.shb_counts.specs.Settled.{events_of}
use Rattle.shb_counts.specs.Sums.{IsCounted}
use Rattle.shb_counts.proofs.counted.count_all.Given as goal

abbrev pub invariant-loop-from : goal.invariant-loop-from
invariant-loop-from g l = record {
  within : l.from ≤ length l.list;
  counted : IsCounted (events_of l.settled) l.located.numbers.now (slice_range l.list 0 l.from) l.counted;
}

abbrev pub decreases-loop-from : goal.decreases-loop-from
decreases-loop-from g l = length l.list - l.from
