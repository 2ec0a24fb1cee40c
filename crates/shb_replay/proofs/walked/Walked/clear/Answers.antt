use Rattle.shb_replay.proofs.Clearing.{all_left}
use Rattle.shb_replay.proofs.Closed.{in_trace}
use Rattle.shb_replay.proofs.walked.Walked.clear.Goals as goal

pub loop-at-init : goal.loop-at-init
loop-at-init c = all_left c.args.linked.now.events.now c.args.linked.now.sizes c.args.list.now c.args.end c.args.self.now c.requires.walked

pub forget-requires-clause-in_trace : goal.forget-requires-clause-in_trace
forget-requires-clause-in_trace c = λ e at. in_trace c.args.linked.now.events.now c.args.list.now c.args.end c.requires.unbroken c.loop-at.at e c.loop-at-test.true at
