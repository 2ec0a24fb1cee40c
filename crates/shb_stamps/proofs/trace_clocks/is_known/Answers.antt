use Rattle.std.proofs.Common.{false}
use Rattle.shb_stamps.proofs.TraceSteps.{next_known}
use Rattle.shb_stamps.proofs.trace_clocks.is_known.Goals as goal

pub returns : goal.returns
returns c = λ known. c.knows_write.ensures c.args.linked.now.events.now c.args.e _ 0 false (next_known c.args.linked.now.events.now c.args.e c.thread-thread.result _ c.args.linked.now.meets c.args.linked.now.few c.requires.in_range c.thread-thread.ensures c.requires.reads (λ t joins. (let f : ⊥ = cc in f))) c.requires.before known
