use Rattle.std.proofs.Common.{ap, refl}
use Rattle.shb_lines.specs.text.Lines.{LinesState}
use Rattle.shb_lines.proofs.text.TakenEvents.{taken_none}
use Rattle.shb_lines.proofs.event_reader.EventReader.new.Goals as goal

pub returns-clause-taken : goal.returns-clause-taken
returns-clause-taken g c = λ limits left. taken_none limits left _ refl (ap (λ (s : LinesState). s.held) c.in_ok-new.ensures) refl c.in_ok-new-2.ensures.numbered
