use Rattle.shb_discipline.proofs.FirstFault.{accepted, stopped, undisciplined}
use Rattle.shb_discipline.proofs.laws.first_fault_of_a_text.Goals as goal

pub returns-clause-undisciplined : goal.returns-clause-undisciplined
returns-clause-undisciplined c = undisciplined

pub returns-clause-stopped : goal.returns-clause-stopped
returns-clause-stopped c = stopped

pub returns-clause-accepted : goal.returns-clause-accepted
returns-clause-accepted c = accepted
