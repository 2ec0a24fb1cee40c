use Rattle.std.proofs.Common.{rules}
use Rattle.shb_positions.proofs.RunLemmas.{one_run}
use Rattle.shb_positions.proofs.positions.Positions.first.Goals as goal

pub invariant_of-result : goal.invariant_of-result
invariant_of-result c = one_run c.args.count _ _ (search rules) c.from.ensures c.ranges.count.fits
