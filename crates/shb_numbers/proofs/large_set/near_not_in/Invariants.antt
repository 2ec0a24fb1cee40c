use Rattle.std.proofs.Common.{◌-◌, ◌≤◌}
use Rattle.std.specs.FinSet as fin
use Rattle.shb_numbers.specs.Numbers.{HasNone, both}
use Rattle.shb_numbers.proofs.large_set.near_not_in.Given as goal

abbrev pub invariant-loop-at : goal.invariant-loop-at
invariant-loop-at l = record {
  start : l.from ≤ l.at;
  passed : HasNone (fin.difference l.near (both l.other-inside.near l.other-inside.far.items)) l.from l.at;
}

abbrev pub decreases-loop-at : goal.decreases-loop-at
decreases-loop-at l = l.end - l.at
