use Rattle.std.proofs.Common.{◌++◌, List, ℕ, codes}
use Rattle.shb_format.proofs.Words.{barred, option_copied}
use Rattle.shb_format.proofs.writing.HeldLemmas.{Puts-as, Puts-second_failed, Puts-three}
use Rattle.shb_format.proofs.writing.AccessPieces.{access_pieces}
use Rattle.shb_format.proofs.writing.access_writer.put_access.Goals as goal

pub returns-in_err-put_bytes-2-clause-put : goal.returns-in_err-put_bytes-2-clause-put
returns-in_err-put_bytes-2-clause-put g c =
    let access = c.args.access.now in
    let rest : List ℕ = access.variable.now ++ (codes ")" ++ barred (option_copied access.location)) in
    Puts-as _ _ _ c.args.held.now _ _ _ (access_pieces access c.opening.result.now c.opening.ensures)
    (Puts-second_failed _ _ _ _ _ c.args.held.now _ _ access.thread.now c.opening.result.now rest c.from_residual-in_err-put_bytes-2.ensures.1
    c.in_ok-put_bytes.ensures.put c.in_err-put_bytes-2.ensures.put)

pub returns-clause-put : goal.returns-clause-put
returns-clause-put g c =
    let access = c.args.access.now in
    let rest : List ℕ = access.variable.now ++ (codes ")" ++ barred (option_copied access.location)) in
    Puts-as _ _ _ c.args.held.now _ _ _ (access_pieces access c.opening.result.now c.opening.ensures)
    (Puts-three _ _ _ _ _ c.args.held.now _ _ _ access.thread.now c.opening.result.now rest
    c.in_ok-put_bytes.ensures.put c.in_ok-put_bytes-2.ensures.put c.put_operation.ensures.put)
