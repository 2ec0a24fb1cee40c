-- Another line stands at the front.
use Rattle.shb_reading.proofs.LineEnds.{lacks_by}
use Rattle.std.proofs.Common.{refl}
use Rattle.shb_reading.proofs.Words.{PlaceForm}
use Rattle.shb_reading.proofs.lines.read_place_line.Goals as goal

pub returns-in_err-count : goal.returns-in_err-count
returns-in_err-count c = rw c.from_residual-in_err-count.ensures (refl, lacks_by (PlaceForm c.args.number) _ _ _ c.in_ok-line.ensures.begins (λ added h. c.in_err-count.ensures h.0 h.1 h.2))
