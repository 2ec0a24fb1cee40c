use Rattle.shb_stamps.proofs.MovedLemmas.{AreTaken}
use Rattle.shb_stamps.proofs.moving.take_marked.Given as goal

abbrev pub invariant-loop-number : goal.invariant-loop-number
invariant-loop-number l = AreTaken l.fn.rows.list l.rows.list l.new.list l.fn.marks.items l.marks.items l.number
