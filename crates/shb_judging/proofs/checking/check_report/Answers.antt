-- The verdict is that of the report, and says whether it is good.
use Rattle.std.proofs.Common.{sym}
use Rattle.shb_judging.proofs.VerdictLaws.{good_exactly_of}
use Rattle.shb_judging.proofs.checking.check_report.Goals as goal

pub returns-clause-verdict : goal.returns-clause-verdict
returns-clause-verdict g c = c.in_ok-verdict.ensures c.args.report.now (sym c.counts.ensures) (sym c.section.ensures) c.in_ok-judged.ensures

pub returns-clause-good : goal.returns-clause-good
returns-clause-good g c =
    let trace = c.args.disciplined.now in
    let report = c.args.report.now in
    good_exactly_of trace.trace.now trace.events.now trace.of_trace trace.meets report c.in_ok-verdict.verdict
    (c.in_ok-verdict.ensures report (sym c.counts.ensures) (sym c.section.ensures) c.in_ok-judged.ensures)
