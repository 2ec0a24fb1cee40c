use Rattle.std.proofs.Common.{codes, ap, sym}
use Rattle.shb_format.proofs.Words.{barred, option_copied}
use Rattle.shb_format.proofs.writing.HeldLemmas.{Puts-as, Puts-then}
use Rattle.shb_format.proofs.writing.access_writer.put_barred.Goals as goal

pub returns-in_ok-put_bytes-in-Some-clause-put : goal.returns-in_ok-put_bytes-in-Some-clause-put
returns-in_ok-put_bytes-in-Some-clause-put g c =
    Puts-as _ _ _ c.args.held.now _ _ _ (sym (ap (λ location. barred (option_copied location)) c.in-Some.is))
    (Puts-then _ _ _ _ c.args.held.now _ _ (codes "|") c.in-Some.text.now c.in_ok-put_bytes-in-Some.ensures.put c.put_bytes-in-Some.ensures.put)
