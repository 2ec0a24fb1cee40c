use Rattle.std.proofs.Common.{get_or}
use Rattle.shb_stamps.proofs.Words.{AreMarked, HasMarked, empty_stamp}
use Rattle.shb_stamps.proofs.moving.mark_stamps.Given as goal

abbrev pub invariant-loop-x : goal.invariant-loop-x
invariant-loop-x l = HasMarked l.initial.marks.items l.marks.items × AreMarked l.marks.items (λ x. (get_or l.stamps x empty_stamp).row) l.x
