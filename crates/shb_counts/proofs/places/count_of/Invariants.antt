use Rattle.std.proofs.Common.{◌≡◌, take}
use Rattle.std.specs.Prelude.{sum_by}
use Rattle.shb_counts.proofs.places.count_of.Given as goal

abbrev pub invariant-loop-sum : goal.invariant-loop-sum
invariant-loop-sum l = l.count ≡ sum_by (λ sum. sum.count) (take l.sum-index l.sums)
