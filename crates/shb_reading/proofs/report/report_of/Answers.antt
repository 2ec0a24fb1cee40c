-- A text within the limit has the bad line that was found.
use Rattle.std.proofs.Common.{◌≤◌, length, arith, subst, [], ◌∷◌, List, ℕ}
use Rattle.shb_reading.proofs.Words.{End, IsBadFrom, Version}
use Rattle.shb_reading.proofs.Bad.{bad_short}
use Rattle.shb_reading.proofs.EntryLemmas.{bad_weaker}
use Rattle.shb_reading.proofs.report.report_of.Goals as goal

pub returns-in_err-scanned-clause-bad : goal.returns-in_err-scanned-clause-bad
returns-in_err-scanned-clause-bad c =
    let text = c.args.text in
    let short : length text.items ≤ c.args.limit = omega (arith, c.len.ensures, text.ok.0, c.if-len-limit.false) in
    bad_weaker c.from_residual.result c.in_err-scanned.field-0.0 _ _ c.from_residual.ensures.1
    (λ n b. bad_short c.args.limit text.items n short (subst (λ (t : List ℕ). IsBadFrom (Version ∷ (End ∷ [])) 0 t n) c.as_slice-2.ensures.value b))
    c.in_err-scanned.ensures.bad
