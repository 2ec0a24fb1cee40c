-- The digits at the front are the number, or there is none.
use Rattle.std.proofs.Common.{rules}
use Rattle.shb_reading.proofs.Digits.{number_is, number_not_plain, number_too_large}
use Rattle.shb_reading.proofs.grammar.number.Goals as goal

pub returns-then-not-is_numeral : goal.returns-then-not-is_numeral
returns-then-not-is_numeral c =
    let split = c.split_digits.ensures in
    number_not_plain _ _ _ split.whole split.digits split.ends (λ plain. let yes = c.is_numeral.ensures.1 plain in search rules)

pub returns : goal.returns
returns c =
    let split = c.split_digits.ensures in
    (c.in_ok-value.ensures.0, number_is _ _ _ split.whole split.digits split.ends c.in_ok-value.value (c.if-not-is_numeral.ensures.0 (search rules)) c.in_ok-value.ensures.0 c.in_ok-value.ensures.1)

pub returns-in_err-value : goal.returns-in_err-value
returns-in_err-value c = rw c.from_residual.ensures (let split = c.split_digits.ensures in
    number_too_large _ _ _ split.whole split.digits split.ends c.in_err-value.ensures)
