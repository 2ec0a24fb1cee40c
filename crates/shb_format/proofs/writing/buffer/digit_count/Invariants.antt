use Rattle.std.proofs.Common.{◌≡◌, ◌+◌, length}
use Rattle.shb_format.proofs.Words.{decimal}
use Rattle.shb_format.proofs.writing.buffer.digit_count.Given as goal

abbrev pub invariant-loop-left : goal.invariant-loop-left
invariant-loop-left l = l.count + length (decimal l.left) ≡ length (decimal l.number)

abbrev pub decreases-loop-left : goal.decreases-loop-left
decreases-loop-left l = l.left
