use Rattle.shb_format.proofs.Words.{common_steps}
use Rattle.std.proofs.Common.{arith}
use Rattle.shb_format.proofs.writing.HeldLemmas.{Puts-sent}
use Rattle.shb_format.proofs.writing.held.put_bytes.Goals as goal

pub returns-then-bytes-gt-ROOM-clause-put : goal.returns-then-bytes-gt-ROOM-clause-put
returns-then-bytes-gt-ROOM-clause-put g c = grind (arith, common_steps, c.as_slice.ensures, c.in_ok-write_all.ensures.ok, c.write_all-then-bytes-gt-ROOM.ensures, Puts-sent, c.clear.ensures)
