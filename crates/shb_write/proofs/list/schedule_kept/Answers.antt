use Rattle.std.proofs.Common.{◌∙◌, List, All, ap, map, subst, sym}
use Rattle.shb_write.proofs.Words.{Event, Pair, Race, ends, pair_in, pairs_race}
use Rattle.shb_write.proofs.list.schedule_kept.Goals as goal

pub order_of_races-requires : goal.order_of_races-requires
order_of_races-requires g c =
    let events = c.args.settled.now.disciplined.now.events.now in
    record {
      races = subst (λ (es : List Event). All (λ (p : Pair). Race es p.first p.second) c.deref.result.now) (sym c.new-linked.ensures.events)
          (pairs_race events c.deref.result.now (map pair_in c.args.races.now) (ap (map ends) c.deref.ensures.value ∙ c.in_ok-pairs.ensures) c.requires.are_races);
    }

pub schedule_races-requires-clause-races : goal.schedule_races-requires-clause-races
schedule_races-requires-clause-races g c κs within =
    let events = c.args.settled.now.disciplined.now.events.now in
    rw c.new-ordered.ensures.disciplined (pairs_race events c.deref-2.result.now (map pair_in c.args.races.now) (ap (map ends) c.deref-2.ensures.value ∙ c.in_ok-pairs.ensures) c.requires.are_races)
