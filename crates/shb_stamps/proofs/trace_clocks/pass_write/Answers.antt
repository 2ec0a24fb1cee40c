use Rattle.std.proofs.Common.{false, inr}
use Rattle.shb_stamps.proofs.TraceSteps.{next_at}
use Rattle.shb_stamps.proofs.trace_clocks.pass_write.Goals as goal

pub returns : goal.returns
returns c = c.take_write.ensures c.args.linked.now.events.now c.args.e 0 false (next_at c.args.linked.now.events.now c.args.linked.now.links.now c.args.e c.thread-thread.result c.local-time.result 0 _
    c.args.linked.now.meets c.args.linked.now.few c.requires.in_range c.args.linked.now.of_links c.thread-thread.ensures c.requires.writes c.local-time.ensures.time (λ t joins. absurd (let f : ⊥ = cc in f))) (inr c.requires.shared, c.requires.writes) c.requires.before
