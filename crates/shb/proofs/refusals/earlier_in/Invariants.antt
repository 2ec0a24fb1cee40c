-- No read has failed.
use Rattle.std.proofs.Common.{◌≡◌}
use Rattle.shb.proofs.refusals.earlier_in.Given as goal

abbrev pub invariant-loop-number : goal.invariant-loop-number
invariant-loop-number g l = g.S.Source.failure_count l.source ≡ 0
