use Rattle.std.proofs.Common.{◌≡◌, ℕ, ◌<◌, true}
use Rattle.std.specs.FinSet as fin
use Rattle.std.specs.Prelude.{slice_index}
use Rattle.shb_numbers.specs.Numbers.{both}
use Rattle.shb_numbers.proofs.large_set.bring_near.Given as goal

abbrev pub invariant-loop-at : goal.invariant-loop-at
invariant-loop-at l = record {
  same : both l.near l.far.items ≡ both l.fn.near l.far.items;
  near : (k : ℕ) → k < l.at → fin.contains l.near (slice_index l.far.items k) ≡ true;
}
