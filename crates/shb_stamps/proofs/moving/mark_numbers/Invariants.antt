use Rattle.std.proofs.Common.{get_or}
use Rattle.shb_stamps.proofs.Words.{AreMarked, HasMarked}
use Rattle.shb_stamps.proofs.moving.mark_numbers.Given as goal

abbrev pub invariant-loop-x : goal.invariant-loop-x
invariant-loop-x l = HasMarked l.initial.marks.items l.marks.items × AreMarked l.marks.items (λ x. get_or l.numbers x 0) l.x
