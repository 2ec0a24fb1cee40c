use Rattle.std.proofs.Common.{ap, ◌∙◌}
use Rattle.shb_scan.proofs.Words.{option_copied}
use Rattle.shb_scan.proofs.FoundNames.{copied_if, line_is}
use Rattle.shb_scan.proofs.writing.access_text.Goals as goal

pub returns-clause-line : goal.returns-clause-line
returns-clause-line c = λ trace h.
    line_is c.args.names.now trace c.args.variable c.args.access c.name.result.now c.name-2.result.now c.name-3.result.now (option_copied c.then_some.result) h
    c.name.ensures c.name-2.ensures c.name-3.ensures (ap option_copied c.then_some.ensures ∙ copied_if c.args.access.spot.barred c.name-3.result)
