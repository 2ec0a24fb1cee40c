use Rattle.shb_orders.proofs.RowLemmas.{rows_more}
use Rattle.shb_orders.proofs.plain_order.plain.Goals as goal

pub loop-e-preserved : goal.loop-e-preserved
loop-e-preserved c = rw c.in_ok-push.ensures.items (rows_more _ c.loop-e.e c.loop-e.rows.items c.in_ok-row_of.field-0 c.loop-e.invariant c.in_ok-row_of.ensures)
