-- Each exit has its outcome.
use Rattle.shb_lines.specs.declared.read.Parsed.{Parsed}
use Rattle.shb_check.proofs.Words.{Verdict}
use Rattle.shb_check.proofs.Endings.{of_failed_sink, of_line, of_refused, of_unjudged, of_unread}
use Rattle.shb_check.proofs.verdicts.check.Goals as goal

pub returns-in_err-parsed : goal.returns-in_err-parsed
returns-in_err-parsed g c =
    let error = c.in_err-parsed.ensures in
    of_unread g.S.Source.remaining g.S.Source.given_count g.S.Source.failure_count c.args.trace_source.now c.read_trace.new.source
    g.Q.Source.remaining g.Q.Source.given_count g.Q.Source.failure_count c.args.report_source.now g.K.Sink.taken g.K.Sink.failure_count c.args.sink.now error.taken error.given
    Parsed _ c.from_residual.result c.from_residual.ensures.1 error.counted

pub returns-in_err-trace : goal.returns-in_err-trace
returns-in_err-trace g c =
    let parsed = c.in_ok-parsed.parsed in
    let read = c.in_ok-parsed.ensures in
    of_refused g.S.Source.remaining g.S.Source.given_count g.S.Source.failure_count c.args.trace_source.now c.read_trace.new.source
    g.Q.Source.remaining g.Q.Source.given_count g.Q.Source.failure_count c.args.report_source.now g.K.Sink.taken g.K.Sink.failure_count c.args.sink.now read.taken read.given
    parsed.trace parsed.stop read.reading read.counted
    _ c.from_residual-in_err-trace.result c.from_residual-in_err-trace.ensures.1 c.in_err-trace.ensures.refused

pub returns-in_err-verdict : goal.returns-in_err-verdict
returns-in_err-verdict g c =
    let parsed = c.in_ok-parsed.parsed in
    let read = c.in_ok-parsed.ensures in
    let error = c.in_err-verdict.ensures in
    of_unjudged g.S.Source.remaining g.S.Source.given_count g.S.Source.failure_count c.args.trace_source.now c.read_trace.new.source
    g.Q.Source.remaining g.Q.Source.given_count g.Q.Source.failure_count c.args.report_source.now g.K.Sink.taken g.K.Sink.failure_count c.args.sink.now read.taken read.given
    parsed.trace parsed.stop read.reading read.counted c.in_ok-trace.trace.trace.now c.in_ok-trace.ensures.accepted c.judge_report.new.source error.taken error.given
    Verdict _ c.from_residual-in_err-verdict.result c.from_residual-in_err-verdict.ensures.1 error.counted

pub returns-in_default : goal.returns-in_default
returns-in_default g c =
    let parsed = c.in_ok-parsed.parsed in
    let read = c.in_ok-parsed.ensures in
    let trace = c.in_ok-trace.trace in
    let there = c.in_ok-verdict.ensures in
    of_failed_sink g.S.Source.remaining g.S.Source.given_count g.S.Source.failure_count c.args.trace_source.now c.read_trace.new.source
    g.Q.Source.remaining g.Q.Source.given_count g.Q.Source.failure_count c.args.report_source.now g.K.Sink.taken g.K.Sink.failure_count c.args.sink.now read.taken read.given
    parsed.trace parsed.stop read.reading read.counted trace.trace.now c.in_ok-trace.ensures.accepted c.judge_report.new.source there.taken there.given
    trace.events.now c.in_ok-verdict.verdict trace.meets trace.of_trace there.verdict there.counted c.verdict_line.new.sink c.in_default.ensures.written c.in_default.ensures.counted

pub returns : goal.returns
returns g c =
    let parsed = c.in_ok-parsed.parsed in
    let read = c.in_ok-parsed.ensures in
    let trace = c.in_ok-trace.trace in
    let there = c.in_ok-verdict.ensures in
    of_line g.S.Source.remaining g.S.Source.given_count g.S.Source.failure_count c.args.trace_source.now c.read_trace.new.source
    g.Q.Source.remaining g.Q.Source.given_count g.Q.Source.failure_count c.args.report_source.now g.K.Sink.taken g.K.Sink.failure_count c.args.sink.now read.taken read.given
    parsed.trace parsed.stop read.reading read.counted trace.trace.now c.in_ok-trace.ensures.accepted c.judge_report.new.source there.taken there.given
    trace.events.now c.in_ok-verdict.verdict trace.meets trace.of_trace there.verdict there.counted c.verdict_line.new.sink c.in-Ok.ensures.written c.in-Ok.ensures.counted
