use Rattle.std.proofs.Common.{length}
use Rattle.shb_reading.proofs.Listing.{HasListed}
use Rattle.shb_reading.proofs.schedule.add_numbers.Given as goal

abbrev pub invariant-loop-rest : goal.invariant-loop-rest
invariant-loop-rest g l = HasListed (g.K.Keeping.kept l.fn.keeping) (g.K.Keeping.most_kept l.fn.keeping) l.text l.fn.numbers.items l.numbers.items l.rest l.count

abbrev pub decreases-loop-rest : goal.decreases-loop-rest
decreases-loop-rest g l = length l.rest
