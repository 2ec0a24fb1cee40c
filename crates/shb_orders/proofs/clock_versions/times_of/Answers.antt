use Rattle.std.proofs.Common.{arith}
use Rattle.shb_orders.proofs.LearnedLemmas.{times_each}
use Rattle.shb_orders.proofs.RowLemmas.{rows_more}
use Rattle.shb_orders.proofs.clock_versions.times_of.Goals as goal

pub loop-t-preserved : goal.loop-t-preserved
loop-t-preserved c = rw c.in_ok-push.ensures.items (rows_more _ c.loop-t.t c.loop-t.times.items _ c.loop-t.invariant c.in_ok-learned_times.ensures)

pub returns : goal.returns
returns c = times_each c.args.linked.now.events.now c.args.linked.now.sizes c.loop-t.t c.loop-t.times.items c.args.linked.now.within (omega (arith, c.loop-t-test.false)) c.loop-t.invariant
