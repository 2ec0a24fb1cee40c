-- The line is one of a well-formed trace.
use Rattle.std.proofs.lemmas.Grind.{common_steps}
use Rattle.std.proofs.Common.{arith}
use Rattle.shb_lines.proofs.text.LineTexts.{start_text}
use Rattle.shb_lines.proofs.trace.Trace.line_text.Goals as goal

pub returns-clause-bytes : goal.returns-clause-bytes
returns-clause-bytes c = grind (arith, common_steps, c.line_from.ensures, c.as_slice.ensures.value, start_text, c.self.invariant.well_formed.line_texts, c.requires, c.self.view_is, c.self.invariant.a_line_each, c.index.ensures)
