use Rattle.std.proofs.Common.{codes}
use Rattle.shb_format.proofs.Words.{access_line}
use Rattle.shb_format.proofs.writing.HeldLemmas.{Puts-second_failed, Puts-three}
use Rattle.shb_format.proofs.writing.access_writer.put_access_line.Goals as goal

pub returns-in_err-put_access-clause-put : goal.returns-in_err-put_access-clause-put
returns-in_err-put_access-clause-put g c =
    Puts-second_failed _ _ _ _ _ c.args.held.now _ _ c.args.label.now (access_line c.args.access.now) (codes "\n") c.from_residual-in_err-put_access.ensures.1
    c.in_ok-put_bytes.ensures.put c.in_err-put_access.ensures.put

pub returns-clause-put : goal.returns-clause-put
returns-clause-put g c =
    Puts-three _ _ _ _ _ c.args.held.now _ _ _ c.args.label.now (access_line c.args.access.now) (codes "\n")
    c.in_ok-put_bytes.ensures.put c.in_ok-put_access.ensures.put c.put_bytes-2.ensures.put
