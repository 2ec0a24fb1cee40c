use Rattle.std.proofs.Common.{arith}
use Rattle.shb_format.proofs.Words.{length-decimal-le}
use Rattle.shb_format.proofs.writing.DigitLemmas.{length_more}
use Rattle.shb_format.proofs.writing.buffer.digit_count.Goals as goal

pub overflow_add-count : goal.overflow_add-count
overflow_add-count c =
    let few = length-decimal-le 20 c.args.number (omega arith) (omega arith) (omega arith) in
    let more = length_more c.loop-left.left c.loop-left-test.true (omega arith) in
    omega (arith, few, more, c.loop-left.invariant)

pub loop-left-preserved : goal.loop-left-preserved
loop-left-preserved c = omega (arith, length_more c.loop-left.left c.loop-left-test.true (omega arith), c.loop-left.invariant)

pub overflow_add-result : goal.overflow_add-result
overflow_add-result c =
    omega (arith, length-decimal-le 20 c.args.number (omega arith) (omega arith) (omega arith), c.loop-left.invariant, c.short_digit_count.ensures)

pub returns-clause-bound : goal.returns-clause-bound
returns-clause-bound c =
    omega (arith, length-decimal-le 20 c.args.number (omega arith) (omega arith) (omega arith), c.loop-left.invariant, c.short_digit_count.ensures)
