-- Empty sets were put behind those that were there.
use Rattle.std.proofs.Common.{◌≡◌, ◌+◌, ◌-◌, ℕ, length}
use Rattle.std.specs.Prelude.{slice_index_or}
use Rattle.std.specs.FinSet as fin
use Rattle.shb_nearest.proofs.sites.make_sets.Given as goal

abbrev pub invariant-loop-alloc : goal.invariant-loop-alloc
invariant-loop-alloc l = (k : ℕ) → slice_index_or l.sets.items k fin.empty ≡ slice_index_or l.fn.sets.items k fin.empty

abbrev pub decreases-loop-alloc : goal.decreases-loop-alloc
decreases-loop-alloc l = (l.at + 1) - length l.sets.items
