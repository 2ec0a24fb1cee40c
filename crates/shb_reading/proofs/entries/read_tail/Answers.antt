-- The last line is missing, or bytes stand after it.
use Rattle.shb_reading.proofs.Words.{End}
use Rattle.shb_reading.proofs.Passing.{bad_at, passes_by}
use Rattle.shb_reading.proofs.ScanLemmas.{bad_tail}
use Rattle.std.proofs.Common.{refl, []}
use Rattle.shb_reading.proofs.entries.read_tail.Goals as goal

pub returns-then-not-read_end-clause-bad : goal.returns-then-not-read_end-clause-bad
returns-then-not-read_end-clause-bad c =
    let missing = rw c.if-not-read_end.true at c.read_end.ensures in
    bad_at End [] _ _ _ missing.0 missing.1

pub returns-then-at-text-clause-bad : goal.returns-then-at-text-clause-bad
returns-then-at-text-clause-bad c =
    let taken = rw c.if-not-read_end.false at c.read_end.ensures in
    passes_by End [] [] _ _ _ _ taken (refl, refl) _ (bad_tail _ _ c.if-at-text.true)
