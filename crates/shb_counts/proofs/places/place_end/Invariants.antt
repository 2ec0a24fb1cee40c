use Rattle.std.proofs.Common.{◌≡◌, ◌<◌, ◌≤◌, ℕ, Some}
use Rattle.std.specs.Prelude.{slice_get}
use Rattle.shb_counts.specs.Joined.{key_of}
use Rattle.shb_counts.specs.declared.sums.PlaceSum.{PlaceSum}
use Rattle.shb_counts.proofs.places.place_end.Given as goal

abbrev pub invariant-loop-end : goal.invariant-loop-end
invariant-loop-end l = (k : ℕ) (one other : PlaceSum) → slice_get l.sums l.start ≡ Some one → l.start ≤ k → k < l.end → slice_get l.sums k ≡ Some other → key_of other ≡ key_of one
