use Rattle.shb_lines.proofs.events.Unschedulable.{race_of_schedule}
use Rattle.shb_pairs.proofs.laws.no_schedule_without_race.Goals as goal

pub returns : goal.returns
returns c trace s i j conflict earlier no_race schedule = no_race (race_of_schedule trace s i j conflict earlier schedule)
