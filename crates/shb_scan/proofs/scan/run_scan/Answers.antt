-- Each exit has its outcome.
use Rattle.shb_scan.proofs.Outcomes.{of_error, of_failed_sink, of_scan}
use Rattle.shb_scan.proofs.scan.run_scan.Goals as goal

pub returns-in_err-found : goal.returns-in_err-found
returns-in_err-found g c =
    of_error g.S.Source.remaining g.S.Source.given_count g.S.Source.failure_count c.args.source.now c.read_scan.new.source g.K.Sink.taken g.K.Sink.failure_count c.args.sink.now
    c.args.by_variable _ c.in_err-found.field-0.0 _ c.from_residual.ensures.1 c.in_err-found.ensures.reading

pub returns-in-Ok : goal.returns-in-Ok
returns-in-Ok g c =
    of_scan g.S.Source.remaining g.S.Source.given_count g.S.Source.failure_count c.args.source.now c.read_scan.new.source g.K.Sink.taken g.K.Sink.failure_count c.args.sink.now
    c.args.by_variable c.in_ok-found.found c.in_ok-found.ensures.form c.in_ok-found.ensures.reading c.write_found.new.sink _ _ c.in-Ok.ensures.written c.in-Ok.ensures.counted

pub returns : goal.returns
returns g c =
    of_failed_sink g.S.Source.remaining g.S.Source.given_count g.S.Source.failure_count c.args.source.now c.read_scan.new.source g.K.Sink.taken g.K.Sink.failure_count c.args.sink.now
    c.args.by_variable c.in_ok-found.found c.in_ok-found.ensures.form c.in_ok-found.ensures.reading c.write_found.new.sink _ c.in-Err.ensures.written c.in-Err.ensures.counted

pub write_found-requires-clause-found : goal.write_found-requires-clause-found
write_found-requires-clause-found g c = let all = c.in_ok-found.ensures.reading.found in (all.text, all.holds)
