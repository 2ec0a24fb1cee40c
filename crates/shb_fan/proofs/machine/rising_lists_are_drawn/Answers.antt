use Rattle.shb_fan.proofs.Drawn.{exist, lead, stop}
use Rattle.shb_fan.proofs.machine.rising_lists_are_drawn.Goals as goal

pub returns-clause-exist : goal.returns-clause-exist
returns-clause-exist c = λ lists drawn are. exist lists drawn are

pub returns-clause-lead : goal.returns-clause-lead
returns-clause-lead c = λ lists drawn pieces steps are le draws. lead lists drawn are pieces le steps draws

pub returns-clause-stop : goal.returns-clause-stop
returns-clause-stop c = λ lists drawn pieces a steps are le draws inside. stop lists drawn are pieces le steps draws a inside
