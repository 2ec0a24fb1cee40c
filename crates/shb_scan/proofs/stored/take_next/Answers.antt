use Rattle.shb_scan.proofs.StoredEvents.{taken_next}
use Rattle.shb_scan.proofs.stored.take_next.Goals as goal

pub returns-clause-taken : goal.returns-clause-taken
returns-clause-taken c h =
    let given = c.args.disciplined.now in
    taken_next given.trace.now given.events.now given.of_trace c.args.flags.now c.args.e c.args.locations.now c.spot_at.new.locations c.args.nearest.now c.take.new.self c.thread.result c.op-op.result c.in_ok-spot.spot c.requires.in_range c.thread.ensures c.op-op.ensures c.in_ok-spot.ensures h
    c.take.result given.meets given.few (λ past spots e thread op room disciplined searched. c.take.ensures.searched past spots e thread op room disciplined searched)
