use Rattle.std.proofs.Common.{false, arith, get_or}
use Rattle.shb_nearest.proofs.Words.{All-contains, Contains-get_or, FoundAccess, IsKnown, place_at}
use Rattle.shb_nearest.proofs.SiteLemmas.{after_same, after_then}
use Rattle.shb_nearest.proofs.sites.Sites.learn.Goals as goal

abbrev none : FoundAccess
none = record { event = 0; thread = 0; writes = false; spot = record { location = 0; barred = false } }

pub loop-first-preserved : goal.loop-first-preserved
loop-first-preserved c = record {
  after = after_then c.args.self.now c.loop-first.self c.pair.new.self c.loop-first.invariant.after c.in_ok-pair.ensures.after;
  paired = λ by_variable x entries known are. (
      let more = c.loop-first-test.true in
      let rivals = c.args.rivals.now in
      let index = c.loop-first.first-index in
      c.in_ok-pair.ensures.paired by_variable x entries (All-contains (λ (a : FoundAccess). IsKnown entries (place_at by_variable x a.spot.location c.args.second)) rivals (get_or rivals index none) known (Contains-get_or rivals index none (omega (arith, more))))
      (c.loop-first.invariant.paired by_variable x entries known are));
}

pub loop-first-init : goal.loop-first-init
loop-first-init c = record { after = after_same c.args.self.now; paired = λ by_variable x entries known are. are }

pub returns-clause-after : goal.returns-clause-after
returns-clause-after c = c.loop-first.invariant.after

pub returns-clause-paired : goal.returns-clause-paired
returns-clause-paired c = c.loop-first.invariant.paired
