use Rattle.shb_fan.proofs.MachineFacts.{facts_hold}
use Rattle.shb_fan.proofs.machine.what_holds.Goals as goal

pub returns : goal.returns
returns c = facts_hold
