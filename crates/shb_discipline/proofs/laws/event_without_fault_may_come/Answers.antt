use Rattle.shb_discipline.proofs.Faultless.{may_come, no_fault}
use Rattle.shb_discipline.proofs.laws.event_without_fault_may_come.Goals as goal

pub returns : goal.returns
returns c = λ past e. (no_fault past e, may_come past e)
