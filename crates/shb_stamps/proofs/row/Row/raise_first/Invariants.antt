use Rattle.std.proofs.Common.{◌*◌}
use Rattle.shb_stamps.proofs.Raised.{IsRaisedTo}
use Rattle.shb_stamps.proofs.row.Row.raise_first.Given as goal

abbrev pub invariant-loop-k : goal.invariant-loop-k
invariant-loop-k l = IsRaisedTo l.fn.clock l.self l.clock (64 * l.k)
