-- Interrupted flushes kept what the writer holds.
use Rattle.std.specs.Io.KnownBytes.{Keeps}
use Rattle.shb_io.proofs.to_writer.flush.Given as goal

abbrev pub invariant-loop-try : goal.invariant-loop-try
invariant-loop-try g l = Keeps (g.W.Write.contents l.fn.writer) (g.W.Write.contents l.writer)
