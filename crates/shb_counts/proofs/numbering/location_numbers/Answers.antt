-- The next event gets the number of its location.
use Rattle.shb_counts.proofs.NumberLemmas.{next_numbered}
use Rattle.shb_counts.proofs.numbering.location_numbers.Goals as goal

pub loop-e-preserved : goal.loop-e-preserved
loop-e-preserved g c =
    next_numbered c.args.disciplined.now.trace.now c.args.flags.now c.loop-e.e c.in_ok-number.number c.loop-e.numbers.items c.push.new.self.items c.loop-e.locations c.number_of.new.locations c.loop-e.invariant c.in_ok-number.ensures
    c.in_ok-push.ensures.items
