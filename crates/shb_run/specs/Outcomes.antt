-- What a run says of the trace of the text that it read, what it answers, and what it leaves of its source and its sink.
use Rattle.std.specs.Prelude.{◌≡◌, ◌⊎◌, ◌+◌, ◌≤◌, ℕ, Bool, List, Option, Some, Result, IfOk, IfSome, drop, ◌<◌, length, Contains}
use Rattle.shb_io.specs.Devices.{CountsFailure}
use Rattle.shb_lines.specs.declared.fault.Fault.{Fault}
use Rattle.shb_lines.specs.text.Limits.{most_read, standard_limits}
use Rattle.shb_lines.specs.text.Taking.{ReadsText, TakesAtMost}
use Rattle.shb_discipline.specs.Faults.{HasNoFault, IsFirstFault}
use Rattle.shb_check.specs.declared.errors.RunError.{RunError}
use Rattle.shb_check.specs.Outcomes.{Grows, OnJudged, OnMemory, OnNoTrace, OnSink, OnTrace, sink_failed, source_failed}
use Rattle.shb_lines.specs.text.TraceData.{IsTraceOf, TraceData}
use Rattle.shb_format.specs.Report.{AllRaces, IsReportOn, IsReportOnText, counts_of}
use Rattle.shb_format.specs.Value.{AreShown, IsShown}
use Rattle.shb_write.specs.declared.errors.WriteError.{WriteError}
use Rattle.shb_write.specs.Written.{CutsBlocksOn, CutsReportOn, OnFailedSink, OnNoMemory, write_failed}
use Rattle.shb_run.specs.declared.settings.Choice.{Choice}
use Rattle.shb_run.specs.declared.settings.Summary.{Summary}
use Rattle.std.specs.Io.KnownBytes.{Appends}
use Rattle.shb_lines.specs.declared.event.Event.{Event}
use Rattle.shb_lines.specs.events.Discipline.{IsDisciplined}
use Rattle.shb_lines.specs.text.Text.{lines_of}
use Rattle.shb_lines.specs.events.Order.{BelowPred}
use Rattle.shb_lines.specs.events.Race.{Conflict, Race}
use Rattle.shb_lines.specs.events.Schedule.{IsPrintedSchedule, IsSchedule}
use Rattle.shb_scan.specs.Outcomes.{AreAtOnePlace, IsScan}
use Rattle.shb_run.specs.declared.settings.Choice.TheVariants.{All, Nearest}

-- the races that a report of this choice lists
abbrev pub ListedBy : Choice → TraceData → List (ℕ × ℕ) → Type 0
ListedBy All = AllRaces
ListedBy (Nearest by_variable) = IsScan by_variable

-- what a run says of a trace with so many races
abbrev pub summary_of : TraceData → ℕ → Summary
summary_of trace races = record {
  events = length trace.events;
  threads = length trace.threads;
  locks = length trace.locks;
  variables = length trace.variables;
  races = races;
}

-- the report of a trace on such races was written, and the summary is that of the report
pub record ReportsTrace (Lists : TraceData → List (ℕ × ℕ) → Type 0) (with_schedules : Bool) (trace : TraceData) (summary : Summary) (old new : Option (List ℕ)) : Type 0 where
  pub bytes : List ℕ
  pub report : IsReportOn Lists with_schedules trace bytes
  pub written : Appends old new bytes
  pub summary_is : summary ≡ summary_of trace (length report.races)

-- each listed pair has a printed schedule, which is a schedule of it; a conflicting pair that is not listed has none, and its earlier event is SHB-below the predecessor of the later one
pub record ListsSchedulable (events : List Event) (races : List (ℕ × ℕ)) : Type 0 where
  pub listed : (i j : ℕ) → Contains races (i, j) → (s : List ℕ) × IsPrintedSchedule events s i j × IsSchedule events s i j
  pub unlisted : (i j : ℕ) → i < j → Conflict events i j → ¬ Contains races (i, j) → (s : List ℕ) → ¬ IsSchedule events s i j
  pub ordered : (i j : ℕ) → i < j → Conflict events i j → ¬ Contains races (i, j) → BelowPred events i j

-- each listed pair is a race and has a printed schedule, which is a schedule of it; each race of the trace has the place of a listed pair, and no two have one place
pub record ListsPlaces (by_variable : Bool) (trace : TraceData) (races : List (ℕ × ℕ)) : Type 0 where
  pub race : (i j : ℕ) → Contains races (i, j) → Race trace.events i j
  pub listed : (i j : ℕ) → Contains races (i, j) → (s : List ℕ) × IsPrintedSchedule trace.events s i j × IsSchedule trace.events s i j
  pub each : (k l : ℕ) → Race trace.events k l → (i : ℕ) × (j : ℕ) × Contains races (i, j) × AreAtOnePlace by_variable trace i j k l
  pub once : (i j k l : ℕ) → Contains races (i, j) → Contains races (k, l) → AreAtOnePlace by_variable trace i j k l → (i ≡ k) × (j ≡ l)

-- what holds of the races that a report of this choice lists
abbrev pub ListsRaces : Choice → TraceData → List (ℕ × ℕ) → Type 0
ListsRaces All trace races = ListsSchedulable trace.events races
ListsRaces (Nearest by_variable) trace races = ListsPlaces by_variable trace races

-- the text has no fault, its report of this choice was written and nothing else, the trace of the report is disciplined, and the summary is that of the report, with numbers of 64 bits
pub record IsReported (choice : Choice) (with_schedules : Bool) (text : List ℕ) (summary : Summary) (old new : Option (List ℕ)) : Type 0 where
  pub faultless : HasNoFault standard_limits text
  pub bytes : List ℕ
  pub report : IsReportOnText (ListedBy choice) with_schedules text bytes
  pub disciplined : IsDisciplined report.trace.events
  pub written : Appends old new bytes
  pub summary_is : summary ≡ summary_of report.trace (length report.report.races)
  pub fits : AreShown (counts_of report.trace) × IsShown summary.races
  pub lists : ListsRaces choice report.trace report.report.races

-- the text has no fault, and P holds of its trace
pub record HasTrace (text : List ℕ) (P : TraceData → Type 0) : Type 0 where
  pub faultless : HasNoFault standard_limits text
  pub trace : TraceData
  pub trace_is : IsTraceOf (lines_of text) trace
  pub holds : P trace

-- what the writing of the report of a trace leaves, and what it answers: all of the report and its summary; the front of it where the sink failed; and where memory was refused nothing or all lines before the first block
pub record HasSummed {K : Type 0} (choice : Choice) (with_schedules : Bool) (trace : TraceData) (taken : K → Option (List ℕ)) (failures : K → ℕ) (old new : K) (answer : Result Summary WriteError) : Type 0 where
  pub report : IfOk answer (λ summary. ReportsTrace (ListedBy choice) with_schedules trace summary (taken old) (taken new))
  pub fits : IfOk answer (λ summary. AreShown (counts_of trace) × IsShown summary.races)
  pub cut : OnFailedSink answer (CutsReportOn (ListedBy choice) with_schedules trace (taken old) (taken new))
  pub memory : OnNoMemory answer ((new ≡ old) ⊎ CutsBlocksOn (ListedBy choice) with_schedules trace (taken old) (taken new))
  pub counted : CountsFailure write_failed (failures old) (failures new) answer

-- of a source: the bytes still to come, how many bytes it has given, and how many reads have failed, at the start and at the end; of a sink: the bytes that it took, and how many writes have failed
module _ {A B : Type 0} (choice : Choice) (with_schedules : Bool) (remaining : A → Option (List ℕ)) (given failed_reads : A → ℕ) (source left : A)
    (taken : B → Option (List ℕ)) (failed_writes : B → ℕ) (sink written : B) where
  -- P holds of the text that was read
  abbrev pub OnText : (List ℕ → Type 0) → Type 0
  OnText P = ReadsText most_read (remaining source) (remaining left) (given source) (given left) P

  pub record IsOutcome (answer : Result Summary RunError) : Type 0 where
    -- the text that was read has no fault, and the report that is asked for was written
    pub read : IfOk answer (λ summary. OnText (λ text. IsReported choice with_schedules text summary (taken sink) (taken written)))
    -- a refused trace has this fault first
    pub refused : OnTrace answer (λ line fault. OnText (λ text. IsFirstFault standard_limits text line fault))
    -- nothing was written where the trace was refused or not read, and where the text has a fault
    pub unwritten : OnNoTrace answer (written ≡ sink)
    pub silent : IfSome (remaining source) (λ text. (line : ℕ) (fault : Fault) → IsFirstFault standard_limits text line fault → written ≡ sink)
    -- where the sink failed the text has no fault, and less than its report was written, the front of it
    pub cut : OnSink answer (OnText (λ text. HasTrace text (λ trace. CutsReportOn (ListedBy choice) with_schedules trace (taken sink) (taken written))))
    -- where memory was refused it is the same, with all lines before the first block, or nothing was written
    pub memory : OnMemory answer ((written ≡ sink) ⊎ OnText (λ text. HasTrace text (λ trace. CutsBlocksOn (ListedBy choice) with_schedules trace (taken sink) (taken written))))
    -- what the sink took before stays as it was
    pub grown : Grows (taken sink) (taken written)
    -- the source lost its first bytes, at most 1,073,741,825, and gave no more than those; it lost exactly those where the text was judged
    pub lost : TakesAtMost most_read (remaining source) (remaining left)
    pub gave : given left ≤ given source + most_read
    pub judged : OnJudged answer (IfSome (remaining source) (λ text. remaining left ≡ Some (drop most_read text)))
    -- an error of a device comes with one failure more of that device, and no other answer does
    pub source_counted : CountsFailure source_failed (failed_reads source) (failed_reads left) answer
    pub sink_counted : CountsFailure sink_failed (failed_writes sink) (failed_writes written) answer
