use Rattle.shb_run.proofs.OwnReport.{good_value, good_verdict}
use Rattle.shb_run.proofs.laws.own_report_is_good.Goals as goal

pub returns-clause-value : goal.returns-clause-value
returns-clause-value c = good_value

pub returns-clause-checked : goal.returns-clause-checked
returns-clause-checked c = good_verdict
