-- Another line stands at the front.
use Rattle.shb_reading.proofs.LineEnds.{lacks_by}
use Rattle.std.proofs.Common.{refl}
use Rattle.shb_reading.proofs.Words.{End}
use Rattle.shb_reading.proofs.lines.read_end.Goals as goal

pub returns-then-not-is_end : goal.returns-then-not-is_end
returns-then-not-is_end c = (refl, lacks_by End _ _ _ c.in-Some.ensures.begins (λ added h. (rw c.if-not-is_end.true at c.is_end.ensures) h.0))
