use Rattle.std.proofs.Common.{◌≡◌, ◌∙◌, length, map, arith, ap}
use Rattle.shb_scan.proofs.Words.{ends, ends_of}
use Rattle.shb_scan.proofs.StoredEvents.{no_races, stored_races, taken_none}
use Rattle.shb_scan.proofs.stored.nearest_races.Goals as goal

pub loop-e-init : goal.loop-e-init
loop-e-init g c = record {
  taken = taken_none c.args.disciplined.now.trace.now c.args.flags.now c.in_ok-locations.locations c.in_ok-nearest.nearest c.in_ok-locations.ensures c.in_ok-nearest.ensures.searched;
  form = c.in_ok-nearest.ensures.form;
}

pub returns-then-are_closed : goal.returns-then-are_closed
returns-then-are_closed g c =
    let given = c.args.disciplined.now in
    no_races c.args.by_variable given.trace.now given.events.now given.sizes c.args.flags.now given.of_trace given.within c.requires.settled (c.are_closed.ensures c.if-are_closed.true) (map ends c.new.result.items) (ap (map ends) c.new.ensures.items)

pub loop-e-preserved : goal.loop-e-preserved
loop-e-preserved g c = record { taken = c.in_ok-take_next.ensures.taken c.loop-e.invariant.taken; form = c.take_next.ensures.form ∙ c.loop-e.invariant.form }

pub returns : goal.returns
returns g c =
    let given = c.args.disciplined.now in
    let all : c.loop-e.e ≡ length given.events.now = omega arith in
    stored_races c.args.by_variable given.trace.now given.events.now c.args.flags.now c.loop-e.e c.loop-e.locations c.loop-e.nearest c.in_ok-races.races.items c.in_ok-pairs.pairs.items given.of_trace c.requires.settled (let same = ap length given.of_trace in omega (arith, all, same)) c.loop-e.invariant.taken c.are_different.ensures
    c.loop-e.invariant.form c.in_ok-races.ensures (c.in_ok-pairs.ensures ∙ ap (map ends_of) c.as_slice.ensures.value)
