use Rattle.shb_links.proofs.Words.{AreOwners}
use Rattle.shb_links.proofs.sharing.shared_variables.Given as goal

abbrev pub invariant-loop-e : goal.invariant-loop-e
invariant-loop-e l = AreOwners l.disciplined.events.now l.e l.disciplined.sizes.variables l.owners.items
