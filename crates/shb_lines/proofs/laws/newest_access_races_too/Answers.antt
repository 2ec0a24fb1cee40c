use Rattle.shb_lines.proofs.events.Longer.{later_same_races}
use Rattle.shb_lines.proofs.laws.newest_access_races_too.Goals as goal

pub returns : goal.returns
returns c = later_same_races
