use Rattle.std.proofs.lemmas.Grind.{common_steps}
use Rattle.std.proofs.Common.{append_assoc, arith}
use Rattle.shb_positions.proofs.RunLemmas.{range_more}
use Rattle.shb_positions.proofs.positions.push_run.Goals as goal

pub loop-k-preserved : goal.loop-k-preserved
loop-k-preserved c = grind (arith, common_steps, c.in_ok-push.ensures.items, c.loop-k.invariant, append_assoc, range_more)
