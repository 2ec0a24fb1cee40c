use Rattle.std.proofs.Common.{false, Some, ap, ◌∙◌}
use Rattle.shb_stamps.proofs.Words.{Op}
use Rattle.shb_stamps.proofs.TraceSteps.{next_at}
use Rattle.shb_stamps.proofs.trace_clocks.pass_other.Goals as goal

pub returns : goal.returns
returns c = c.take_other.ensures c.args.linked.now.events.now c.args.e false (next_at c.args.linked.now.events.now c.args.linked.now.links.now c.args.e c.thread-thread.result c.local-time.result c.joined_time-joined.result c.op-op.result
    c.args.linked.now.meets c.args.linked.now.few c.requires.in_range c.args.linked.now.of_links c.thread-thread.ensures c.op-op.ensures c.local-time.ensures.time (λ t joins. c.joined_time-joined.ensures t (c.op-op.ensures ∙ ap (λ (o : Op). Some o) joins))) c.requires.before
