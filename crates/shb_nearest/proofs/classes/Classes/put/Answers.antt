use Rattle.shb_nearest.proofs.classes.Classes.put.Goals as goal

pub returns-clause-updates : goal.returns-clause-updates
returns-clause-updates c q = c.in_ok-before.ensures.updates.0 q
