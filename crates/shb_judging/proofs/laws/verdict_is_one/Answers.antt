use Rattle.shb_judging.proofs.VerdictLaws.{one_verdict}
use Rattle.shb_judging.proofs.laws.verdict_is_one.Goals as goal

pub returns : goal.returns
returns c = λ trace report verdict other disciplined. one_verdict trace disciplined report verdict other
