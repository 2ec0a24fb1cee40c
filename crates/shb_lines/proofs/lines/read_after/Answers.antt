use Rattle.std.proofs.Common.{arith}
use Rattle.shb_lines.proofs.text.LinesRead.{gives_read}
use Rattle.shb_lines.proofs.lines.read_after.Goals as goal

pub returns-clause-ok : goal.returns-clause-ok
returns-clause-ok g c =
    gives_read _ _ _ _ c.args.filled c.args.bytes.now c.read.new.buf _ c.read.result (omega (arith, c.requires.room)) c.read.ensures.bound c.read.ensures.bytes c.read.ensures.given
