use Rattle.shb_write.proofs.Words.{parts_left, shown_in}
use Rattle.shb_write.proofs.Parts.{IsListing}
use Rattle.shb_write.proofs.list.write_parts.Given as goal

abbrev pub invariant-loop-races : goal.invariant-loop-races
invariant-loop-races g l = IsListing g.K.Sink.taken g.K.Sink.failure_count (shown_in l.plan.schedules l.settled.disciplined.now.events.now) l.settled.disciplined.now.events.now l.initial.writer l.initial.list.rest l.list.rest l.writer

abbrev pub decreases-loop-races : goal.decreases-loop-races
decreases-loop-races g l = parts_left l.list.rest
