use Rattle.std.proofs.Common.{◌++◌, codes}
use Rattle.shb_format.proofs.Words.{labelled_line, line_of_event}
use Rattle.shb_format.proofs.writing.HeldLemmas.{PutsPrefix-front, Puts-then, Puts-err}
use Rattle.shb_format.proofs.writing.writer.put_event_lines.Goals as goal

pub returns-in_err-put_line-clause-put : goal.returns-in_err-put_line-clause-put
returns-in_err-put_line-clause-put g c =
    let held = c.args.held.now in
    let first = labelled_line (codes "first ") c.line_text.result.now in
    let second = labelled_line (codes "second ") (line_of_event c.args.trace.now c.args.pair.second) in
    rw c.line_text.ensures.line
    (Puts-err _ _ _ _ held _ (first ++ second) c.from_residual.ensures.1 (PutsPrefix-front _ _ held first second c.in_err-put_line.ensures.put))

pub returns-clause-put : goal.returns-clause-put
returns-clause-put g c =
    let first = labelled_line (codes "first ") c.line_text.result.now in
    let second = labelled_line (codes "second ") c.line_text-2.result.now in
    rw (c.line_text.ensures.line, c.line_text-2.ensures.line)
    (Puts-then _ _ _ _ c.args.held.now _ _ first second c.in_ok-put_line.ensures.put c.put_line-2.ensures.put)
