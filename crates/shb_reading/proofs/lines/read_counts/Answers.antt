-- Another line stands at the front.
use Rattle.shb_reading.proofs.LineEnds.{lacks_by}
use Rattle.std.proofs.Common.{refl}
use Rattle.shb_reading.proofs.Words.{CountsForm}
use Rattle.shb_reading.proofs.lines.read_counts.Goals as goal

pub returns-in_err-counts : goal.returns-in_err-counts
returns-in_err-counts c = rw c.from_residual-in_err-counts.ensures (refl, lacks_by CountsForm _ _ _ c.in_ok-line.ensures.begins (λ added h. c.in_err-counts.ensures h.0 h.1 h.2))
