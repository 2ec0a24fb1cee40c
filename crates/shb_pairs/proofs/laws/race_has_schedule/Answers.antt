use Rattle.shb_pairs.proofs.Words.{schedule_of_race}
use Rattle.shb_pairs.proofs.laws.race_has_schedule.Goals as goal

pub returns : goal.returns
returns c trace i j disciplined race = schedule_of_race trace disciplined i j race
