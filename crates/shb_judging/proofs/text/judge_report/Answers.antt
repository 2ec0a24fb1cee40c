-- What was taken of the source has the verdict of all that it tells.
use Rattle.std.proofs.Common.{List, ℕ, arith, subst}
use Rattle.shb_lines.proofs.text.TakingLemmas.{reads_text}
use Rattle.shb_judging.proofs.Words.{BadLine, IsVerdictFor, most_bytes}
use Rattle.shb_lines.specs.text.Taking.{HasGiven}
use Rattle.shb_reading.specs.Reading.{IsBadLine}
use Rattle.shb_judging.proofs.TextVerdicts.{verdict_told}
use Rattle.shb_judging.proofs.text.judge_report.Goals as goal

pub returns-in-Ok-clause-verdict : goal.returns-in-Ok-clause-verdict
returns-in-Ok-clause-verdict g c =
    let trace = c.args.disciplined.now.trace.now in
    let text = c.in_ok-text.text in
    let whole = c.in_ok-text.ensures.ok in
    let given = subst (HasGiven _ _) text.ok.0 c.in_ok-text.ensures.given_ok in
    let verdict = c.in-Ok.verdict in
    let judged = subst (λ (t : List ℕ). IsVerdictFor trace t verdict) c.as_slice.ensures.value c.in-Ok.ensures.verdict in
    reads_text _ _ _ _ text.items most_bytes (λ t. IsVerdictFor trace t verdict) (omega (arith, whole.0, text.ok.0)) whole.1 (λ short. whole.2 (omega (arith, short, text.ok.0))) given judged
    (verdict_told trace _ _ text.items verdict whole.1 (λ short. whole.2 (omega (arith, short, text.ok.0))) judged)

pub returns-in-Err-BadLine-clause-verdict : goal.returns-in-Err-BadLine-clause-verdict
returns-in-Err-BadLine-clause-verdict g c =
    let trace = c.args.disciplined.now.trace.now in
    let text = c.in_ok-text.text in
    let whole = c.in_ok-text.ensures.ok in
    let given = subst (HasGiven _ _) text.ok.0 c.in_ok-text.ensures.given_ok in
    let stop = c.in-Err-BadLine.ensures.bad in
    let bad = rw c.in-Err-BadLine.field-0-is at stop in
    let judged : IsBadLine most_bytes text.items c.in-Err-BadLine.line = subst (λ (t : List ℕ). IsBadLine most_bytes t c.in-Err-BadLine.line) c.as_slice.ensures.value bad in
    reads_text _ _ _ _ text.items most_bytes (λ t. IsVerdictFor trace t (BadLine c.in-Err-BadLine.line)) (omega (arith, whole.0, text.ok.0)) whole.1 (λ short. whole.2 (omega (arith, short, text.ok.0))) given judged
    (verdict_told trace _ _ text.items (BadLine c.in-Err-BadLine.line) whole.1 (λ short. whole.2 (omega (arith, short, text.ok.0))) judged)
