-- No read has failed.
use Rattle.std.proofs.Common.{◌≡◌}
use Rattle.shb.proofs.refusals.read_to.Given as goal

abbrev pub invariant-loop : goal.invariant-loop
invariant-loop g l = g.S.Source.failure_count l.source ≡ 0
