use Rattle.shb_witness.proofs.Printed.{listed_is_schedule}
use Rattle.shb_witness.proofs.schedules.schedule.Goals as goal

pub returns-clause-schedule : goal.returns-clause-schedule
returns-clause-schedule g c = listed_is_schedule c.args.disciplined.now.events.now _ c.args.pair.first c.args.pair.second c.to_vec-2.result c.args.disciplined.now.meets c.requires.race c.in_ok-schedule_alone.ensures c.to_vec-2.ensures
