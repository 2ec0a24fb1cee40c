use Rattle.std.proofs.Common.{false}
use Rattle.shb_stamps.proofs.sweep.Sweep.new.Goals as goal

pub invariant_of-result : goal.invariant_of-result
invariant_of-result c = λ some. c.in_ok-clocks.ensures.before c.args.linked.events.now false
