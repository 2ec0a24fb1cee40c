use Rattle.shb_nearest.proofs.NearestLaws.{unique}
use Rattle.shb_nearest.proofs.laws.nearest_races_are_unique.Goals as goal

pub returns : goal.returns
returns g c = unique
