use Rattle.shb_check.proofs.Endings.{accepted_of, refused_of, stopped_of}
use Rattle.shb_check.proofs.verdicts.judge.Goals as goal

pub returns-in_err-trace-clause-refused : goal.returns-in_err-trace-clause-refused
returns-in_err-trace-clause-refused c = refused_of c.args.parsed.now.trace c.args.parsed.now.stop _ c.from_residual.result c.from_residual.ensures.1 c.in_err-trace.ensures.refused

pub returns-in-Some-clause-refused : goal.returns-in-Some-clause-refused
returns-in-Some-clause-refused c =
    let trace = c.in_ok-trace.trace in
    stopped_of c.args.parsed.now.trace c.args.parsed.now.stop c.in-Some.stop trace.events.now trace.trace.now trace.meets trace.of_trace c.in_ok-trace.ensures.trace c.in-Some.is

pub returns-in-None-clause-accepted : goal.returns-in-None-clause-accepted
returns-in-None-clause-accepted c =
    let trace = c.in_ok-trace.trace in
    accepted_of c.args.parsed.now.trace c.args.parsed.now.stop trace.events.now trace.trace.now trace.meets trace.of_trace c.in_ok-trace.ensures.trace c.in-None.is
