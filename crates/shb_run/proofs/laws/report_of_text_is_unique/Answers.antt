use Rattle.shb_run.proofs.OneReport.{one_report}
use Rattle.shb_run.proofs.laws.report_of_text_is_unique.Goals as goal

pub returns : goal.returns
returns c = one_report
