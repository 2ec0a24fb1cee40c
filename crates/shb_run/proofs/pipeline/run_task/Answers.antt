-- Each exit has its outcome.
use Rattle.shb_run.proofs.Outcomes.{of_failed_sink, of_no_memory, of_refused, of_report}
use Rattle.shb_run.proofs.pipeline.run_task.Goals as goal

pub returns-in_err-trace : goal.returns-in_err-trace
returns-in_err-trace g c =
    let parsed = c.in_ok-parsed.parsed in
    let read = c.in_ok-parsed.ensures in
    of_refused c.args.choice c.args.plan.now.schedules g.S.Source.remaining g.S.Source.given_count g.S.Source.failure_count c.args.source.now c.read_trace.new.source
    g.K.Sink.taken g.K.Sink.failure_count c.args.sink.now read.taken read.given
    parsed.trace parsed.stop read.reading read.counted
    _ c.from_residual-in_err-trace.result c.from_residual-in_err-trace.ensures.1 c.in_err-trace.ensures.refused

pub returns-in-Ok : goal.returns-in-Ok
returns-in-Ok g c =
    let parsed = c.in_ok-parsed.parsed in
    let read = c.in_ok-parsed.ensures in
    let trace = c.in_ok-trace.trace in
    of_report c.args.choice c.args.plan.now.schedules g.S.Source.remaining g.S.Source.given_count g.S.Source.failure_count c.args.source.now c.read_trace.new.source
    g.K.Sink.taken g.K.Sink.failure_count c.args.sink.now read.taken read.given
    parsed.trace parsed.stop read.reading read.counted
    trace.trace.now c.in_ok-trace.ensures.accepted c.report_asked.new.sink
    trace.events.now _ trace.meets trace.of_trace c.in-Ok.ensures.report c.in-Ok.ensures.fits c.in-Ok.ensures.counted

pub returns-in-Err-Sink : goal.returns-in-Err-Sink
returns-in-Err-Sink g c =
    let parsed = c.in_ok-parsed.parsed in
    let read = c.in_ok-parsed.ensures in
    of_failed_sink c.args.choice c.args.plan.now.schedules g.S.Source.remaining g.S.Source.given_count g.S.Source.failure_count c.args.source.now c.read_trace.new.source
    g.K.Sink.taken g.K.Sink.failure_count c.args.sink.now read.taken read.given
    parsed.trace parsed.stop read.reading read.counted
    c.in_ok-trace.trace.trace.now c.in_ok-trace.ensures.accepted c.report_asked.new.sink
    (rw c.in-Err-Sink.field-0-is at c.in-Err-Sink.ensures.cut) (rw c.in-Err-Sink.field-0-is at c.in-Err-Sink.ensures.counted)

pub returns : goal.returns
returns g c =
    let parsed = c.in_ok-parsed.parsed in
    let read = c.in_ok-parsed.ensures in
    of_no_memory c.args.choice c.args.plan.now.schedules g.S.Source.remaining g.S.Source.given_count g.S.Source.failure_count c.args.source.now c.read_trace.new.source
    g.K.Sink.taken g.K.Sink.failure_count c.args.sink.now read.taken read.given
    parsed.trace parsed.stop read.reading read.counted
    c.in_ok-trace.trace.trace.now c.in_ok-trace.ensures.accepted c.report_asked.new.sink c.in-Err-Memory.refused
    (rw c.in-Err-Memory.field-0-is at c.in-Err-Memory.ensures.memory) (rw c.in-Err-Memory.field-0-is at c.in-Err-Memory.ensures.counted)
