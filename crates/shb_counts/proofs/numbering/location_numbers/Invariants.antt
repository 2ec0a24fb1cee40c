use Rattle.shb_counts.proofs.Words.{AreNumbered}
use Rattle.shb_counts.proofs.numbering.location_numbers.Given as goal

abbrev pub invariant-loop-e : goal.invariant-loop-e
invariant-loop-e g l = AreNumbered l.disciplined.trace.now l.flags l.e l.numbers.items l.locations
