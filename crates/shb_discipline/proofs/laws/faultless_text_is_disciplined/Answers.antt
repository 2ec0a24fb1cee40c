use Rattle.shb_discipline.proofs.FirstFault.{faultless_disciplined}
use Rattle.shb_discipline.proofs.laws.faultless_text_is_disciplined.Goals as goal

pub returns : goal.returns
returns c = faultless_disciplined
