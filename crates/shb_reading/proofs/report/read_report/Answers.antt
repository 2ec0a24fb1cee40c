-- An edit that makes this false is refused at once.
use Rattle.shb_reading.proofs.report.read_report.Goals as goal

pub returns-clause-report : goal.returns-clause-report
returns-clause-report g c = c.read_report_within.ensures.report

pub returns-clause-bad : goal.returns-clause-bad
returns-clause-bad g c = c.read_report_within.ensures.bad

pub returns-clause-taken : goal.returns-clause-taken
returns-clause-taken g c = c.read_report_within.ensures.taken

pub returns-clause-given : goal.returns-clause-given
returns-clause-given g c = c.read_report_within.ensures.given

pub returns-clause-counted : goal.returns-clause-counted
returns-clause-counted g c = c.read_report_within.ensures.counted
