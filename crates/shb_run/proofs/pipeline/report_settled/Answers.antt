use Rattle.shb_run.proofs.Endings.{summed, summed_error}
use Rattle.shb_run.proofs.pipeline.report_settled.Goals as goal

pub write_races-requires-clause-races : goal.write_races-requires-clause-races
write_races-requires-clause-races g c κs alive = (c.in_ok-list.ensures.0, c.in_ok-list.ensures.2)

pub returns-in_err-write_races : goal.returns-in_err-write_races
returns-in_err-write_races g c =
    let asked = c.in_ok-list.ensures in
    summed_error c.args.choice c.args.plan.now.schedules c.args.settled.now.disciplined.now.trace.now asked.0 asked.1 g.K.Sink.taken g.K.Sink.failure_count _ _ (Unit {0}) _ c.from_residual-in_err-write_races.result c.from_residual-in_err-write_races.ensures.1 (c.in_err-write_races.ensures asked.0 asked.2)

pub returns : goal.returns
returns g c =
    let asked = c.in_ok-list.ensures in
    summed c.args.choice c.args.plan.now.schedules c.args.settled.now.disciplined.now.trace.now asked.0 asked.1 g.K.Sink.taken g.K.Sink.failure_count _ _ (Unit {0}) tt _ _ c.summary_of.ensures.summary c.summary_of.ensures.fits asked.2.count (c.in_ok-write_races.ensures asked.0 asked.2)
