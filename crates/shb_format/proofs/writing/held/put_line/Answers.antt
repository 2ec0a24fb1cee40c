use Rattle.shb_format.proofs.Words.{common_steps}
use Rattle.std.proofs.Common.{◌++◌, codes, arith}
use Rattle.shb_format.proofs.writing.HeldLemmas.{PutsPrefix-front, PutsPrefix-after, Puts-then, Puts-err}
use Rattle.shb_format.proofs.writing.held.put_line.Goals as goal

pub returns-in_err-put_bytes-2-clause-put : goal.returns-in_err-put_bytes-2-clause-put
returns-in_err-put_bytes-2-clause-put g c =
    let held = c.args.held.now in
    let label = c.args.label.now in
    let text = c.args.text.now in
    let front = PutsPrefix-front _ _ c.put_bytes.new.held text (codes "\n") c.in_err-put_bytes-2.ensures.put in
    Puts-err _ _ _ _ held _ (label ++ (text ++ codes "\n")) c.from_residual-in_err-put_bytes-2.ensures.1
    (PutsPrefix-after _ _ _ held _ label (text ++ codes "\n") c.in_ok-put_bytes.ensures.put front)

pub returns-clause-put : goal.returns-clause-put
returns-clause-put g c = grind (arith, common_steps, Puts-then, codes, c.in_ok-put_bytes-2.ensures.put, c.put_bytes-3.ensures.put, c.in_ok-put_bytes.ensures.put)
