-- Another line stands at the front.
use Rattle.shb_reading.proofs.LineEnds.{lacks_by}
use Rattle.std.proofs.Common.{refl}
use Rattle.shb_reading.proofs.Words.{Race}
use Rattle.shb_reading.proofs.lines.read_race_line.Goals as goal

pub returns-in_err-pair : goal.returns-in_err-pair
returns-in_err-pair c = rw c.from_residual-in_err-pair.ensures (refl, lacks_by (Race c.args.number) _ _ _ c.in_ok-line.ensures.begins (λ added h. c.in_err-pair.ensures h.0 h.1 h.2 h.3 h.4))
