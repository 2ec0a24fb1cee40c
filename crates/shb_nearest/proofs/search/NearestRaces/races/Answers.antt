use Rattle.shb_nearest.proofs.FinalLemmas.{races_final}
use Rattle.shb_nearest.proofs.search.NearestRaces.races.Goals as goal

pub returns : goal.returns
returns c past spots h =
    races_final c.args.self.now.by_variable past spots h.as_many c.args.self.now.tables.places.races.entries h.tables.places c.are_different.ensures c.in_ok-races.races.items c.in_order-sorted.result.items c.in_ok-races.ensures c.in_order-sorted.ensures
