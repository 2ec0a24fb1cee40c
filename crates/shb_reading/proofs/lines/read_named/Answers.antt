-- Another line stands at the front.
use Rattle.std.proofs.Common.{refl, subst, sym}
use Rattle.shb_reading.proofs.LineEnds.{lacks_named, named_taken}
use Rattle.shb_reading.proofs.Words.{TakesLine}
use Rattle.shb_reading.proofs.lines.read_named.Goals as goal

pub returns-in_err-bytes : goal.returns-in_err-bytes
returns-in_err-bytes c = rw c.from_residual-in_err-bytes.ensures (refl, λ l label least. lacks_named _ _ _ c.in_ok-line.ensures.begins l c.args.label.now c.args.least label least c.in_err-bytes.ensures)

pub returns : goal.returns
returns c =
    let taken = subst (λ p. TakesLine c.args.text.now c.args.at.now p c.in_ok-line.line.now) (sym c.after.ensures) c.in_ok-line.ensures in
    named_taken _ _ _ _ _ _ _ taken c.in_ok-bytes.ensures.1 c.in_ok-bytes.ensures.0 _ refl
