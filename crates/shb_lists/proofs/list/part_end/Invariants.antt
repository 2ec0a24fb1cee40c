use Rattle.std.proofs.Common.{◌≡◌, ◌+◌, ◌-◌, ◌<◌, ◌≤◌, ◌⊎◌}
use Rattle.std.specs.Prelude.{slice_range, sum_by}
use Rattle.shb_lists.proofs.list.part_end.Given as goal

abbrev pub invariant-loop-to : goal.invariant-loop-to
invariant-loop-to l = record {
  more : l.from < l.to;
  within : l.to ≤ l.end;
  races : l.races ≡ sum_by (λ access. access.races) (slice_range l.list l.from l.to);
  few : (l.to ≡ l.from + 1) ⊎ (l.races ≤ l.most);
}

abbrev pub decreases-loop-to : goal.decreases-loop-to
decreases-loop-to l = l.end - l.to
