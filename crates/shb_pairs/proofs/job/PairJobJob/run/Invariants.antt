use Rattle.std.proofs.Common.{◌≡◌, ◌-◌, ◌≤◌, map}
use Rattle.std.specs.Prelude.{flat_map, take, drop}
use Rattle.shb_pairs.proofs.Words.{ends, races_with}
use Rattle.shb_pairs.proofs.job.PairJobJob.run.Given as goal

abbrev pub invariant-loop-index : goal.invariant-loop-index
invariant-loop-index g l = record {
  low : l.initial.index ≤ l.index;
  high : l.index ≤ l.index-end;
  found : map ends l.races.items ≡ flat_map (races_with l.self.trace) (take (l.index - l.initial.index) (drop l.initial.index l.accesses));
}
