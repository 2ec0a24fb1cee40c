use Rattle.shb_stamps.proofs.Raised.{IsRaised}
use Rattle.shb_stamps.proofs.row.raise.Given as goal

abbrev pub invariant-loop-t : goal.invariant-loop-t
invariant-loop-t l = IsRaised l.fn.clock l.piece l.clock l.t
