use Rattle.std.proofs.Common.{◌≡◌, ◌<◌, ℕ, get_or, true}
use Rattle.shb_stamps.proofs.row_list.is_same.Given as goal

abbrev pub invariant-loop-t : goal.invariant-loop-t
invariant-loop-t l = l.same ≡ true → (k : ℕ) → k < l.t → get_or l.chunk k 0 ≡ get_or l.other k 0
