-- Two names more than there are threads are within the limit, or the new ones are counted.
use Rattle.std.proofs.lemmas.Grind.{common_steps}
use Rattle.std.proofs.Common.{◌≡◌, ◌≤◌, arith, false, nat_lt, ℕ}
use Rattle.std.proofs.lemmas.Bool.Decides.{nat_tests}
use Rattle.shb_lines.proofs.text.LineLemmas.{length-threads_le}
use Rattle.shb_lines.proofs.numbering.Numbering.has_too_many_threads.Goals as goal

not_less : (most n : ℕ) → n ≤ most → false ≡ nat_lt most n
not_less most n h = grind (arith, nat_tests)

pub returns-then-known-most : goal.returns-then-known-most
returns-then-known-most c = grind (arith, common_steps, not_less, length-threads_le, c.len-known.ensures.len, c.if-known-most.true)
