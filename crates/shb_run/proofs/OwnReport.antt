-- What a check says of a report that a run wrote with schedules.
use Rattle.std.proofs.Common.{◌≡◌, inl, ℕ, ◌≤◌, true, List, length, Option, None, sym, ap, subst, ◌∙◌, arith}
use Rattle.std.specs.List.{AllByRecursion}
use Rattle.std.proofs.lemmas.List.{length-map}
use Rattle.std.proofs.lemmas.Slice.Zip.{AllZip-long}
use Rattle.shb_lines.specs.text.Faults.{HasNoLineFaultBefore}
use Rattle.shb_run.proofs.Words.{AreShown, Choice, HasNoFault, IsLineText, IsReportValue, IsReported, IsShown, IsTraceOf, ListedBy, ReportValue, Summary, TraceData, counts_of, lines_of, most_bytes, one_whole_trace, report_text, standard_limits, written_good}
use Rattle.shb_lines.proofs.text.LineTexts.{held_texts}
use Rattle.shb_judging.specs.declared.verdict.Verdict.{Verdict}
use Rattle.shb_judging.specs.declared.verdict.Verdict.TheVariants.{Good, BadLine, BadCounts, BadRace, BadPlaces}
use Rattle.shb_reading.specs.Reading.{IsReportText}
use Rattle.shb_judging.specs.Verdicts.{IsVerdict, IsJudged, IsVerdictFor}
use Rattle.shb_format.specs.Writing.{IsShowable}
use Rattle.shb_reading.proofs.Injective.{report_same}
use Rattle.shb_judging.proofs.VerdictLaws.{one_verdict}
use Rattle.shb_check.specs.Checks.{IsVerdictOf}
use Rattle.shb_run.proofs.Reports.{listed_are_races}

-- the lines of the trace of a text that has no fault
showable_of : (text : List ℕ) (trace : TraceData) → HasNoFault standard_limits text → IsTraceOf (lines_of text) trace → AreShown (counts_of trace) → IsShowable trace
showable_of text trace none is counts =
    let faultless : HasNoLineFaultBefore standard_limits text (length (lines_of text)) = λ k fault lt has. none k fault lt (inl has) in
    let held = held_texts standard_limits text (omega arith) (λ lines. IsTraceOf lines trace) None (faultless, is) in
    record {
      counts = counts;
      a_line_each = ap (λ (l : List (List ℕ)). length l) is.lines_are ∙ length-map _ (λ e. e.text) ∙ AllZip-long _ _ _ is.events_are;
      line_texts = subst (AllByRecursion IsLineText) (sym held.1.lines_are) held.2;
    }

-- a report with schedules of this choice
module _ (choice : Choice) (text : List ℕ) (summary : Summary) (old new : Option (List ℕ)) (reported : IsReported choice true text summary old new) where
  abbrev trace : TraceData
  trace = reported.report.trace

  abbrev bytes : List ℕ
  bytes = reported.bytes

  races_are : summary.races ≡ length reported.report.report.races
  races_are = ap (λ (s : Summary). s.races) reported.summary_is

  -- its bytes are the text of a report in the grammar, whose verdict is that it is good
  pub good_value : (value : ReportValue) × IsReportValue value × (bytes ≡ report_text value) × IsVerdict trace value (Good summary.races)
  good_value =
      let showable = showable_of text trace reported.faultless reported.report.trace_is reported.fits.0 in
      let good = written_good (ListedBy choice) trace bytes (listed_are_races choice trace) reported.disciplined showable reported.report.report (subst IsShown races_are reported.fits.1) in
      (good.0, good.1, good.2, subst (λ (n : ℕ). IsVerdict trace good.0 (Good n)) (sym races_are) good.3)

  judged_good : (verdict : Verdict) → IsJudged trace bytes verdict → verdict ≡ Good summary.races
  judged_good verdict judged =
      let same : judged.report ≡ good_value.0 = report_same judged.report good_value.0 judged.report_is.in_grammar good_value.1 (sym judged.report_is.text_is ∙ good_value.2) in
      one_verdict trace reported.disciplined good_value.0 verdict (Good summary.races) (subst (λ r. IsVerdict trace r verdict) same judged.verdict_is) good_value.3

  verdict_good : (verdict : Verdict) → IsReportText most_bytes bytes good_value.0 → IsVerdictFor trace bytes verdict → verdict ≡ Good summary.races
  verdict_good (Good races) whole is = judged_good (Good races) is
  verdict_good (BadLine line) whole is = absurd (is.no_report good_value.0 whole)
  verdict_good BadCounts whole is = judged_good BadCounts is
  verdict_good (BadRace race why) whole is = judged_good (BadRace race why) is
  verdict_good BadPlaces whole is = judged_good BadPlaces is

  -- so where it is not longer than a report that is read, a check says that it is good
  pub good_verdict : (verdict : Verdict) → length bytes ≤ most_bytes → IsVerdictOf text bytes verdict → verdict ≡ Good summary.races
  good_verdict verdict short is =
      let same : is.trace ≡ trace = one_whole_trace (lines_of text) is.trace trace is.trace_is reported.report.trace_is in
      verdict_good verdict (record { in_grammar = good_value.1; text_is = good_value.2; short = short }) (subst (λ t. IsVerdictFor t bytes verdict) same is.verdict_is)
