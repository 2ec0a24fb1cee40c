use Rattle.shb_judging.proofs.GoodRaces.{good_lists_races}
use Rattle.shb_judging.proofs.laws.good_reports_list_races.Goals as goal

pub returns : goal.returns
returns c = good_lists_races
