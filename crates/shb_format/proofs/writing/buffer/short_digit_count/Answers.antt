use Rattle.std.proofs.Common.{sym}
use Rattle.shb_format.proofs.writing.DigitLemmas.{length_digit, length_two, length_three, length_four}
use Rattle.shb_format.proofs.writing.buffer.short_digit_count.Goals as goal

pub returns-then-number-lt10 : goal.returns-then-number-lt10
returns-then-number-lt10 c = sym (length_digit c.args.number c.if-number-lt10.true)

pub returns-then-number-lt100 : goal.returns-then-number-lt100
returns-then-number-lt100 c = sym (length_two c.args.number c.if-number-lt10.false c.if-number-lt100.true)

pub returns-then-number-lt1000 : goal.returns-then-number-lt1000
returns-then-number-lt1000 c = sym (length_three c.args.number c.if-number-lt100.false c.if-number-lt1000.true)

pub returns-else-number-lt1000 : goal.returns-else-number-lt1000
returns-else-number-lt1000 c = sym (length_four c.args.number c.if-number-lt1000.false c.requires)
