-- The reader is as the read left it.
use Rattle.std.proofs.Common.{◌≡◌}
use Rattle.shb.proofs.checks.TailedRead.read.Given as goal

abbrev pub invariant-loop-byte : goal.invariant-loop-byte
invariant-loop-byte g l = l.self.reader ≡ l.initial.self.reader
