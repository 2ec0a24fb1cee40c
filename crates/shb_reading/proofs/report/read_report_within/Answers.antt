-- What was taken of the source has the first bad line of all that it tells.
use Rattle.std.proofs.Common.{arith, subst}
use Rattle.shb_lines.specs.text.Taking.{HasGiven}
use Rattle.shb_lines.proofs.text.TakingLemmas.{reads_text}
use Rattle.shb_reading.proofs.Words.{IsBadLine}
use Rattle.shb_reading.proofs.Bad.{bad_of_source}
use Rattle.shb_reading.proofs.report.read_report_within.Goals as goal

pub returns-in-Err-BadLine-clause-bad : goal.returns-in-Err-BadLine-clause-bad
returns-in-Err-BadLine-clause-bad g c =
    let limit = c.args.limit in
    let text = c.in-Ok.text in
    let whole = c.in-Ok.ensures.ok in
    let given = subst (HasGiven _ _) text.ok.0 c.in-Ok.ensures.given_ok in
    let stop = c.in-Err-BadLine.ensures.bad in
    let bad = rw c.in-Err-BadLine.field-0-is at stop in
    reads_text _ _ _ _ text.items limit (λ t. IsBadLine limit t c.in-Err-BadLine.n) (omega (arith, whole.0, text.ok.0)) whole.1 (λ short. whole.2 (omega (arith, short, text.ok.0))) given bad
    (bad_of_source limit c.in-Err-BadLine.n _ _ text.items whole.1 (λ short. whole.2 (omega (arith, short, text.ok.0))) bad)
