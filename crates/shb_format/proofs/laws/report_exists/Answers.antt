use Rattle.shb_format.proofs.Blocks.{report_exists}
use Rattle.shb_format.proofs.laws.report_exists.Goals as goal

pub returns : goal.returns
returns c = report_exists
