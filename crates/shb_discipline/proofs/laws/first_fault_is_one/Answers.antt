use Rattle.shb_discipline.proofs.Single.{disciplined_or_not, one_in_text, one_in_trace}
use Rattle.shb_discipline.proofs.laws.first_fault_is_one.Goals as goal

pub returns-clause-of_trace : goal.returns-clause-of_trace
returns-clause-of_trace c = one_in_trace

pub returns-clause-of_disciplined : goal.returns-clause-of_disciplined
returns-clause-of_disciplined c = disciplined_or_not

pub returns-clause-of_text : goal.returns-clause-of_text
returns-clause-of_text c = one_in_text
