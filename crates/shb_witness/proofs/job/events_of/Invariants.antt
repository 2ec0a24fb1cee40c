use Rattle.std.proofs.Common.{◌≡◌, take}
use Rattle.shb_witness.proofs.Words.{ends_of}
use Rattle.shb_witness.proofs.job.events_of.Given as goal

abbrev pub invariant-loop-k : goal.invariant-loop-k
invariant-loop-k l = l.events.items ≡ ends_of (take l.k l.pairs)
