use Rattle.shb_orders.proofs.ClockLemmas.{clock_answer}
use Rattle.shb_orders.proofs.full_clocks.FullClocksOrder.below_pred.Goals as goal

pub returns : goal.returns
returns c = clock_answer c.self.inside.linked.events.now _ c.self.inside.clocks.items _ c.as_slice.result.now c.args.e c.args.t _ c.self.view_is c.self.invariant c.requires.in_range c.index.ensures c.as_slice.ensures c.entry.ensures
