-- A digit more is ten times the number so far and that digit.
use Rattle.std.proofs.Common.{arith}
use Rattle.shb_reading.proofs.Digits.{value_front, value_more}
use Rattle.shb_reading.proofs.grammar.value_of.Goals as goal

pub returns-in_err-more : goal.returns-in_err-more
returns-in_err-more c = rw c.from_residual.ensures (omega (arith, c.in_err-more.ensures, value_front c.args.digits.now c.loop-digit.digit-index c.loop-digit.value c.requires c.loop-digit-test.true c.loop-digit.invariant.value))

pub returns-in_err-next : goal.returns-in_err-next
returns-in_err-next c = rw c.from_residual-in_err-next.ensures (omega (arith, c.in_err-next.ensures, c.in_ok-more.ensures, c.from.ensures, value_front c.args.digits.now c.loop-digit.digit-index c.loop-digit.value c.requires c.loop-digit-test.true c.loop-digit.invariant.value))

pub loop-digit-preserved : goal.loop-digit-preserved
loop-digit-preserved c =
    let more = value_more c.args.digits.now c.loop-digit.digit-index c.requires c.loop-digit-test.true in
    record {
      small = omega (arith, c.in_ok-next.ensures);
      value = omega (arith, c.in_ok-next.ensures, c.in_ok-more.ensures, c.from.ensures, more, c.loop-digit.invariant.value);
    }
