-- Another line stands at the front.
use Rattle.shb_reading.proofs.LineEnds.{lacks_by}
use Rattle.std.proofs.Common.{refl}
use Rattle.shb_reading.proofs.Words.{Schedule}
use Rattle.shb_reading.proofs.lines.read_schedule.Goals as goal

pub returns-then-not-branch : goal.returns-then-not-branch
returns-then-not-branch g c = (refl, lacks_by Schedule _ _ _ c.in-Some.ensures.begins (λ added h. (rw c.if-not-branch.true at c.in_ok-add_schedule.ensures) h.0 h.1 h.2 h.3))
