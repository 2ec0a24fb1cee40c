use Rattle.shb_witness.proofs.Printed.{piece_value}
use Rattle.shb_witness.proofs.job.WitnessJobJob.run.Goals as goal

pub returns-in-Some : goal.returns-in-Some
returns-in-Some g c = piece_value c.args.self.now c.self.inside.ordered.disciplined.now.events.now c.self.inside.pairs.now c.args.k c.schedule_runs.result c.self.view_is c.schedule_runs.ensures

pub returns-in-None : goal.returns-in-None
returns-in-None g c = piece_value c.args.self.now c.self.inside.ordered.disciplined.now.events.now c.self.inside.pairs.now c.args.k c.schedule_alone.result c.self.view_is c.schedule_alone.ensures
