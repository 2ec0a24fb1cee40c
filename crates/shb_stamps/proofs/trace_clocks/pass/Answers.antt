use Rattle.shb_stamps.proofs.Words.{op_known}
use Rattle.shb_stamps.proofs.TraceSteps.{passed_read_alone, passed_write_alone}
use Rattle.shb_stamps.proofs.trace_clocks.pass.Goals as goal

pub returns-then-not-shared : goal.returns-then-not-shared
returns-then-not-shared c = passed_write_alone c.args.linked.now.events.now c.args.linked.now.links.now c.args.e c.in-Write.variable c.args.clocks.now c.args.linked.now.meets c.args.linked.now.few c.requires.in_range c.requires.before c.args.linked.now.of_links c.is_shared-shared.result c.is_shared-shared.ensures c.if-not-shared.true (op_known c.args.linked.now.events.now c.args.e _ _ c.op.ensures c.in-Write.is)

pub returns-then-not-shared-2 : goal.returns-then-not-shared-2
returns-then-not-shared-2 c = passed_read_alone c.args.linked.now.events.now c.args.linked.now.links.now c.args.e c.in-Read.variable c.args.clocks.now c.args.linked.now.meets c.args.linked.now.few c.requires.in_range c.requires.before c.args.linked.now.of_links c.is_shared-shared-in-Read.result c.is_shared-shared-in-Read.ensures c.if-not-shared-2.true (op_known c.args.linked.now.events.now c.args.e _ _ c.op.ensures c.in-Read.is)
