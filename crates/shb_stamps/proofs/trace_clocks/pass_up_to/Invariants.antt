use Rattle.std.proofs.Common.{false}
use Rattle.shb_stamps.proofs.Words.{IsBefore}
use Rattle.shb_stamps.proofs.trace_clocks.pass_up_to.Given as goal

abbrev pub invariant-loop-e : goal.invariant-loop-e
invariant-loop-e l = IsBefore l.linked.events.now l.e false l.clocks
