use Rattle.shb_orders.proofs.Words.{MarksFrom}
use Rattle.shb_orders.proofs.plain_order.marks_below.Given as goal

abbrev pub invariant-loop-a : goal.invariant-loop-a
invariant-loop-a l = MarksFrom l.linked.events.now l.p l.a l.marks.items
