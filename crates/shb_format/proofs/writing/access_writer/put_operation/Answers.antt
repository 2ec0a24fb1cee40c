use Rattle.std.proofs.Common.{codes}
use Rattle.shb_format.proofs.Words.{barred, option_copied}
use Rattle.shb_format.proofs.writing.HeldLemmas.{Puts-second_failed, Puts-three}
use Rattle.shb_format.proofs.writing.access_writer.put_operation.Goals as goal

pub returns-in_err-put_bytes-2-clause-put : goal.returns-in_err-put_bytes-2-clause-put
returns-in_err-put_bytes-2-clause-put g c =
    Puts-second_failed _ _ _ _ _ c.args.held.now _ _ c.args.access.now.variable.now (codes ")") (barred (option_copied c.args.access.now.location))
    c.from_residual-in_err-put_bytes-2.ensures.1 c.in_ok-put_bytes.ensures.put c.in_err-put_bytes-2.ensures.put

pub returns-clause-put : goal.returns-clause-put
returns-clause-put g c =
    Puts-three _ _ _ _ _ c.args.held.now _ _ _ c.args.access.now.variable.now (codes ")") (barred (option_copied c.args.access.now.location))
    c.in_ok-put_bytes.ensures.put c.in_ok-put_bytes-2.ensures.put c.put_barred.ensures.put
