use Rattle.shb_format.proofs.WrittenText.{written_law}
use Rattle.shb_format.proofs.laws.written_report_is_a_text.Goals as goal

pub returns : goal.returns
returns c = written_law
