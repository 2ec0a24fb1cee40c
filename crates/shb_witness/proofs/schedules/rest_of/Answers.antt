use Rattle.std.proofs.Common.{arith}
use Rattle.shb_witness.proofs.CutLemmas.{rest_all, rest_more}
use Rattle.shb_witness.proofs.schedules.rest_of.Goals as goal

pub loop-thread-preserved : goal.loop-thread-preserved
loop-thread-preserved c = rest_more c.args.threads.now c.args.cuts.now c.loop-thread.rest.items c.not_below.result.now c.within-events.result.now _ c.args.front c.loop-thread.thread c.loop-thread.invariant c.not_below.ensures c.within-events.ensures.members c.in_ok-extend_from_slice.ensures.items

pub returns-clause-members : goal.returns-clause-members
returns-clause-members c = rest_all c.args.threads.now c.args.cuts.now c.args.front _ c.loop-thread.rest.items c.each_once.result (omega (arith, c.loop-thread-test.false, c.loop-thread.auto.thread-end)) c.loop-thread.invariant c.each_once.ensures.same
