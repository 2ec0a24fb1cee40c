-- The verdict on a text within the limit, and its bad line.
use Rattle.std.proofs.Common.{◌≤◌, length, arith}
use Rattle.shb_judging.proofs.Words.{bad_short, bad_weaker, most_bytes}
use Rattle.shb_judging.proofs.TextVerdicts.{verdict_for}
use Rattle.shb_judging.proofs.text.verdict_of.Goals as goal

pub returns-clause-verdict : goal.returns-clause-verdict
returns-clause-verdict g c =
    let text = c.args.text.now in
    let short : length text ≤ most_bytes = omega (arith, c.if-text-gt-MOST_BYTES.false) in
    verdict_for c.args.disciplined.now.trace.now text _ _ short c.in_ok-verdict.ensures.judged

pub returns-in_err-verdict-clause-bad : goal.returns-in_err-verdict-clause-bad
returns-in_err-verdict-clause-bad g c =
    let text = c.args.text.now in
    let short : length text ≤ most_bytes = omega (arith, c.if-text-gt-MOST_BYTES.false) in
    bad_weaker c.from_residual.result c.in_err-verdict.field-0.0 _ _ c.from_residual.ensures.1 (λ n b. bad_short most_bytes text n short b) c.in_err-verdict.ensures.bad
