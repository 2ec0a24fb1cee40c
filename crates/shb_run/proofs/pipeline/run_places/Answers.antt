-- An edit that makes this false is refused at once.
use Rattle.shb_run.proofs.pipeline.run_places.Goals as goal

pub returns : goal.returns
returns g c = c.run_task.ensures
