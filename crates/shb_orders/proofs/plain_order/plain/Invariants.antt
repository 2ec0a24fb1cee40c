use Rattle.shb_orders.proofs.Words.{AreEach, IsRowOf}
use Rattle.shb_orders.proofs.plain_order.plain.Given as goal

abbrev pub invariant-loop-e : goal.invariant-loop-e
invariant-loop-e l = AreEach (IsRowOf l.linked.events.now) l.e l.rows.items
