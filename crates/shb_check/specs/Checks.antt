-- What a check says of the texts of a trace and of a report, and what it leaves of its two sources and its sink.
use Rattle.std.specs.Prelude.{◌≡◌, ◌+◌, ◌≤◌, ℕ, ◌⊎◌, List, length, Option, Some, Result, IfOk, IfSome, drop}
use Rattle.std.specs.Io.KnownBytes.{Appends}
use Rattle.shb_io.specs.Devices.{AppendsPrefix, CountsFailure}
use Rattle.shb_lines.specs.declared.fault.Fault.{Fault}
use Rattle.shb_lines.specs.events.Discipline.{IsDisciplined}
use Rattle.shb_lines.specs.text.Limits.{most_bytes, most_read, standard_limits}
use Rattle.shb_lines.specs.text.Taking.{ReadsText, TakesAtMost}
use Rattle.shb_lines.specs.text.Text.{lines_of}
use Rattle.shb_lines.specs.text.TraceData.{IsTraceOf, TraceData}
use Rattle.shb_discipline.specs.Faults.{HasNoFault, IsFirstFault}
use Rattle.shb_judging.specs.declared.verdict.Verdict.{Verdict}
use Rattle.shb_judging.specs.Verdicts.{IsVerdictFor}
use Rattle.shb_reading.specs.Reading.{IsReportText}
use Rattle.shb_format.specs.Value.{ReportValue}
use Rattle.shb_judging.specs.Verdicts.{IsGoodReport, verdict_bytes}
use Rattle.shb_check.specs.declared.errors.RunError.{RunError}
use Rattle.shb_check.specs.Outcomes.{Grows, OnJudged, OnMemory, OnNoTrace, OnSink, OnTrace, OnWriting, sink_failed, source_failed}

-- the verdict on the text of a report against the trace of all lines of a text, which is disciplined
pub record IsVerdictOf (text report : List ℕ) (verdict : Verdict) : Type 0 where
  pub trace : TraceData
  pub trace_is : IsTraceOf (lines_of text) trace
  pub disciplined : IsDisciplined trace.events
  pub verdict_is : IsVerdictFor trace report verdict

-- a text is a report that is good for the trace of another, with so many races
pub record IsGoodFor (text report : List ℕ) (races : ℕ) : Type 0 where
  pub trace : TraceData
  pub trace_is : IsTraceOf (lines_of text) trace
  pub value : ReportValue
  pub value_is : IsReportText most_bytes report value
  pub good : IsGoodReport trace value
  pub races_are : races ≡ length value.blocks

-- the text of the trace has no fault, and this is the verdict of the two texts
pub record IsChecked (text report : List ℕ) (verdict : Verdict) : Type 0 where
  pub faultless : HasNoFault standard_limits text
  pub verdict_is : IsVerdictOf text report verdict

-- of the source of the trace, and of that of the report: the bytes still to come, how many bytes it has given, and how many reads have failed, at the start and at the end; of the sink: the bytes that it took, and how many writes have failed
module _ {A B C : Type 0} (remaining : A → Option (List ℕ)) (given failures : A → ℕ) (source left : A) (remaining_there : B → Option (List ℕ)) (given_there failures_there : B → ℕ) (reports reports_left : B)
    (taken : C → Option (List ℕ)) (failed_writes : C → ℕ) (sink written : C) where
  -- P holds of the text of the trace that was read
  abbrev pub OfTrace : (List ℕ → Type 0) → Type 0
  OfTrace P = ReadsText most_read (remaining source) (remaining left) (given source) (given left) P

  -- P holds of both texts that were read
  abbrev pub OfBoth : (List ℕ → List ℕ → Type 0) → Type 0
  OfBoth P = OfTrace (λ text. ReadsText most_read (remaining_there reports) (remaining_there reports_left) (given_there reports) (given_there reports_left) (P text))

  -- Q holds where the text of the trace has a fault
  abbrev pub IfFaulty : Type 0 → Type 0
  IfFaulty Q = IfSome (remaining source) (λ text. (line : ℕ) (fault : Fault) → IsFirstFault standard_limits text line fault → Q)

  pub record HasChecked (answer : Result Verdict RunError) : Type 0 where
    -- the trace has no fault, the verdict is that of the two texts, and its line was written
    pub verdict : IfOk answer (λ verdict. OfBoth (λ text report. IsChecked text report verdict))
    pub line : IfOk answer (λ verdict. Appends (taken sink) (taken written) (verdict_bytes verdict))
    -- a refused trace has this fault first
    pub refused : OnTrace answer (λ line fault. OfTrace (λ text. IsFirstFault standard_limits text line fault))
    -- nothing was written where the trace was refused, where a source failed, where memory was refused, and where the trace has a fault
    pub unwritten : OnNoTrace answer (written ≡ sink)
    pub memory : OnMemory answer (written ≡ sink)
    pub silent : IfFaulty (written ≡ sink)
    -- where the sink failed the trace has no fault, and less than the line of the verdict was written, the front of it
    pub cut : OnSink answer (OfBoth (λ text report. (verdict : Verdict) × IsChecked text report verdict × AppendsPrefix (taken sink) (taken written) (verdict_bytes verdict)))
    -- what the sink took before stays as it was
    pub grown : Grows (taken sink) (taken written)
    -- the report isn't read where the trace has a fault, whatever is answered, nor where the source of the trace failed
    pub unread : IfFaulty (reports_left ≡ reports)
    pub unread_after : OnTrace answer (λ _ _. reports_left ≡ reports)
    pub unread_failed : failures left ≡ failures source + 1 → reports_left ≡ reports
    -- each source lost its first bytes, at most 1,073,741,825, and gave no more than those; it lost exactly those: of the trace where that was judged, of the report where a line was to be written
    pub trace_taken : TakesAtMost most_read (remaining source) (remaining left)
    pub trace_given : given left ≤ given source + most_read
    pub trace_left : OnJudged answer (IfSome (remaining source) (λ text. remaining left ≡ Some (drop most_read text)))
    pub report_taken : TakesAtMost most_read (remaining_there reports) (remaining_there reports_left)
    pub report_given : given_there reports_left ≤ given_there reports + most_read
    pub report_left : OnWriting answer (IfSome (remaining_there reports) (λ report. remaining_there reports_left ≡ Some (drop most_read report)))
    -- an error of a device comes with one failure more of that device, and no other answer does
    pub sources : (CountsFailure source_failed (failures source) (failures left) answer × (failures_there reports_left ≡ failures_there reports))
        ⊎ ((failures source ≡ failures left) × CountsFailure source_failed (failures_there reports) (failures_there reports_left) answer)
    pub sink_counted : CountsFailure sink_failed (failed_writes sink) (failed_writes written) answer
