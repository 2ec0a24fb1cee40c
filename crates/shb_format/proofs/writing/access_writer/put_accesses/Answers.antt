use Rattle.std.proofs.Common.{◌++◌, codes}
use Rattle.shb_format.proofs.Words.{access_line, labelled_line}
use Rattle.shb_format.proofs.writing.HeldLemmas.{PutsPrefix-front, Puts-then, Puts-err}
use Rattle.shb_format.proofs.writing.access_writer.put_accesses.Goals as goal

pub returns-in_err-put_access_line-clause-put : goal.returns-in_err-put_access_line-clause-put
returns-in_err-put_access_line-clause-put g c =
    let first = labelled_line (codes "first ") (access_line c.args.first.now) in
    let second = labelled_line (codes "second ") (access_line c.args.second.now) in
    Puts-err _ _ _ _ c.args.held.now _ (first ++ second) c.from_residual.ensures.1 (PutsPrefix-front _ _ c.args.held.now first second c.in_err-put_access_line.ensures.put)

pub returns-clause-put : goal.returns-clause-put
returns-clause-put g c =
    Puts-then _ _ _ _ c.args.held.now _ _ (labelled_line (codes "first ") (access_line c.args.first.now)) (labelled_line (codes "second ") (access_line c.args.second.now))
    c.in_ok-put_access_line.ensures.put c.put_access_line-2.ensures.put
