-- A name counts where the table lacks it, and where it isn't the one counted before.
use Rattle.std.proofs.lemmas.Grind.{common_steps}
use Rattle.std.proofs.Common.{arith}
use Rattle.shb_lines.proofs.text.NameLemmas.{new-one, new-same, new-two}
use Rattle.shb_lines.proofs.text.LineLemmas.{threads_among-none, threads_among-thread}
use Rattle.shb_lines.proofs.numbering.Numbering.new_threads.Goals as goal

pub returns-then-eq-clause-count : goal.returns-then-eq-clause-count
returns-then-eq-clause-count c = grind (arith, common_steps, threads_among-thread, c.in-Fork.is, new-same, c.eq.ensures, c.if-eq.true, new-one, c.from-own.ensures, c.is_new_thread.ensures)

pub returns-else-eq-clause-count : goal.returns-else-eq-clause-count
returns-else-eq-clause-count c = grind (arith, common_steps, threads_among-thread, c.in-Fork.is, new-two, c.from-own.ensures, c.is_new_thread.ensures, c.from.ensures, c.is_new_thread-else-eq.ensures, c.eq.ensures, c.if-eq.false)

pub returns-in_default-clause-count : goal.returns-in_default-clause-count
returns-in_default-clause-count c = grind (arith, common_steps, threads_among-none, c.in_default.not-Fork, c.in_default.not-Join, new-one, c.from-own.ensures, c.is_new_thread.ensures)
