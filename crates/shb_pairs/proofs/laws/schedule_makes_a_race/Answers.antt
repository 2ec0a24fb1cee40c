use Rattle.shb_lines.proofs.events.Unschedulable.{race_of_schedule}
use Rattle.shb_pairs.proofs.laws.schedule_makes_a_race.Goals as goal

pub returns : goal.returns
returns c trace s i j conflict earlier schedule = race_of_schedule trace s i j conflict earlier schedule
