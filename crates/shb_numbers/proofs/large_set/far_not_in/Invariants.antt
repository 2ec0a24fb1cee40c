use Rattle.std.proofs.Common.{ℕ, ◌<◌, ◌≤◌, length}
use Rattle.std.specs.Prelude.{slice_index}
use Rattle.shb_numbers.proofs.FarLemmas.{HasPassed}
use Rattle.shb_numbers.proofs.large_set.far_not_in.Given as goal

abbrev pub invariant-loop-at : goal.invariant-loop-at
invariant-loop-at l = record {
  start : l.at < length l.far → l.from ≤ slice_index l.far l.at;
  passed : HasPassed l.far l.other l.from l.at;
  behind : (k : ℕ) → k < l.passed → l.at < length l.far → slice_index l.there k < slice_index l.far l.at;
}
