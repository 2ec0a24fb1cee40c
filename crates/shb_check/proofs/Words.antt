-- The words and lemmas of the crates below, and this crate's words, as its proofs say them.
pub use Rattle.shb_check.specs.Checks.{HasChecked, IsChecked, IsGoodFor, IsVerdictOf}
pub use Rattle.shb_judging.specs.Verdicts.{IsJudged, IsVerdict, IsVerdictFor, verdict_bytes}
pub use Rattle.shb_judging.specs.declared.verdict.Verdict.{Verdict}
pub use Rattle.shb_lines.specs.events.Discipline.{IsDisciplined}
pub use Rattle.shb_lines.specs.text.Limits.{most_bytes, most_read, standard_limits}
pub use Rattle.shb_lines.specs.text.Text.{lines_of}
pub use Rattle.shb_lines.specs.text.TraceData.{IsReadingOf, IsTraceOf, TraceData, tables_in}
