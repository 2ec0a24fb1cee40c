use Rattle.shb_judging.proofs.VerdictLaws.{good_exactly}
use Rattle.shb_judging.proofs.laws.good_reports_are_called_good.Goals as goal

pub returns : goal.returns
returns c = λ trace report verdict disciplined. good_exactly trace disciplined report verdict
