use Rattle.shb_links.specs.Links.{AreLocalTimes}
use Rattle.shb_links.proofs.links.links_of.Given as goal

abbrev pub invariant-loop-e : goal.invariant-loop-e
invariant-loop-e l = AreLocalTimes l.disciplined.events.now l.e l.disciplined.sizes l.found
