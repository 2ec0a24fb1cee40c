use Rattle.shb_format.proofs.Words.{Writes-both, common_steps}
use Rattle.std.proofs.Common.{arith}
use Rattle.shb_format.proofs.writing.writer.head.Goals as goal

pub returns-clause-written : goal.returns-clause-written
returns-clause-written g c = grind (arith, common_steps, c.as_slice.ensures, c.head_text-text.ensures, Writes-both, c.write_all.ensures.ok, c.write_all.ensures.err)
