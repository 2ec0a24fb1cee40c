use Rattle.shb_lines.proofs.events.RaceLists.{race_list_unique}
use Rattle.shb_lines.proofs.laws.race_list_is_unique.Goals as goal

pub returns : goal.returns
returns c = race_list_unique
