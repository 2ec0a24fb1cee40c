use Rattle.shb_reading.proofs.Injective.{report_same}
use Rattle.shb_reading.proofs.laws.report_of_a_text_is_unique.Goals as goal

pub returns : goal.returns
returns c = report_same
