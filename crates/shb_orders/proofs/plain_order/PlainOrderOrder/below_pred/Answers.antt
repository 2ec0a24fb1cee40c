use Rattle.shb_orders.proofs.MarksLemmas.{count_from_rows}
use Rattle.shb_orders.proofs.plain_order.PlainOrderOrder.below_pred.Goals as goal

pub returns : goal.returns
returns c = count_from_rows c.self.inside.linked.events.now _ _ _ c.as_slice.result.now _ _ _ c.self.view_is c.self.invariant c.requires.in_range c.index.ensures c.as_slice.ensures c.count_marked.ensures
