-- The number at a front is one alone.
use Rattle.std.proofs.Common.{arith, sym}
use Rattle.shb_reading.proofs.Fronts.{same_labelled}
use Rattle.shb_reading.proofs.grammar.after_number.Goals as goal

pub returns-else-found-number : goal.returns-else-found-number
returns-else-found-number c = λ rest h.
    c.if-found-number.false (sym (same_labelled _ _ _ _ _ _ (omega (arith, c.ranges.number.fits)) c.in_ok-found.ensures.0 h c.in_ok-found.ensures.1).0)
