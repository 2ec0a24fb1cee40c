use Rattle.shb_stamps.proofs.RaisedCounts.{AreRaisedTo}
use Rattle.shb_stamps.proofs.order.Order.raise_below.Given as goal

abbrev pub invariant-loop-t : goal.invariant-loop-t
invariant-loop-t g l = AreRaisedTo (g.Self.Order.trace l.fn.self) l.fn.e l.fn.counts.items l.counts.items l.t
