-- Another line stands at the front.
use Rattle.std.proofs.Common.{refl}
use Rattle.shb_reading.proofs.Words.{Version}
use Rattle.shb_reading.proofs.LineEnds.{lacks_by}
use Rattle.shb_reading.proofs.lines.read_version.Goals as goal

pub returns-in_err-with_places : goal.returns-in_err-with_places
returns-in_err-with_places c = rw c.from_residual-in_err-with_places.ensures (refl, lacks_by Version _ _ _ c.in_ok-line.ensures.begins (λ added h. c.in_err-with_places.ensures h.0 h.1))
