-- What a scan of a trace writes and answers, under which limits, and what it leaves of its source and its sink.
use Rattle.std.specs.Prelude.{◌≡◌, ◌-◌, ◌^◌, ◌≤◌, ℕ, Bool, false, List, length, Option, Result, IfOk, IfSome, true, None, if◌then◌else◌, ◌++◌}
use Rattle.std.specs.Io.KnownBytes.{Appends, IsAtEnd}
use Rattle.shb_io.specs.Devices.{AppendsPrefix, CountsFailure}
use Rattle.shb_lines.specs.declared.fault.Fault.{Fault}
use Rattle.shb_lines.specs.events.Discipline.{IsDisciplined}
use Rattle.shb_lines.specs.text.Lines.{Moves}
use Rattle.shb_lines.specs.text.Text.{lines_of}
use Rattle.shb_lines.specs.text.TraceData.{IsTraceOf, TraceData}
use Rattle.shb_discipline.specs.Faults.{HasNoFault, IsFirstFault}
use Rattle.shb_format.specs.Report.{IsReportOn}
use Rattle.shb_nearest.specs.Nearest.{AreNearest}
use Rattle.shb_scan.specs.declared.errors.ScanError.{ScanError}
use Rattle.shb_scan.specs.Errors.{OnSink, OnTooManyLines, OnTrace, OnUnwritten, sink_failed, source_failed}
use Rattle.shb_lines.specs.declared.limits.Limits.{Limits}
use Rattle.shb_lines.specs.text.Limits.{most_line}
use Rattle.shb_lines.specs.text.Taken.{rest_of, without_text_limit}
use Rattle.shb_lines.specs.events.Race.{variable_at}
use Rattle.shb_format.specs.Places.{location_at, place_at}

abbrev pub most_scan_events : ℕ
most_scan_events = 4294967294

-- of events, threads and the bytes of a line; the bytes of a text have no limit
abbrev pub scan_bounds : Limits
scan_bounds = record { text = 0; line = most_line; events = most_scan_events; threads = 65535 }

-- the limits of this text, which is not too long
abbrev pub scan_limits : List ℕ → Limits
scan_limits text = without_text_limit scan_bounds text

-- the location of an event, and where it is asked for its variable
abbrev pub site_at : Bool → TraceData → ℕ → List ℕ × Option ℕ
site_at by_variable trace event = (location_at trace event, if by_variable then variable_at trace.events event else None)

-- two races are at one place: their locations are the same, and where it is asked for their variable
pub record AreAtOnePlace (by_variable : Bool) (trace : TraceData) (i j k l : ℕ) : Type 0 where
  pub place : place_at trace i j ≡ place_at trace k l
  pub variable : by_variable ≡ true → variable_at trace.events j ≡ variable_at trace.events l

-- a source gave its bytes up to its end, and P holds of them
pub record ReadsAll (old new : Option (List ℕ)) (given_before given_after : ℕ) (P : List ℕ → Type 0) : Type 0 where
  pub text : List ℕ
  pub moves : Moves old new given_before given_after text
  pub ended : IsAtEnd new
  pub holds : P text

-- a source gave its first bytes, and P holds of all that it had; where it doesn't tell them, of those that it gave
pub record ReadsFront (old new : Option (List ℕ)) (given_before given_after : ℕ) (P : List ℕ → Type 0) : Type 0 where
  pub read : List ℕ
  pub moves : Moves old new given_before given_after read
  pub holds : P (read ++ rest_of new)

-- the races of the scan of a trace: the nearest of each place, where a place is two location texts, or by variable such texts and a variable
abbrev pub IsScan : Bool → TraceData → List (ℕ × ℕ) → Type 0
IsScan by_variable trace races = AreNearest trace.events (site_at by_variable trace) races

-- the text has no fault, and P holds of the bytes of its scan: the report of its trace, without schedules, on these races
pub record HasScan (by_variable : Bool) (text : List ℕ) (P : List ℕ → Type 0) : Type 0 where
  pub faultless : HasNoFault (scan_limits text) text
  pub trace : TraceData
  pub trace_is : IsTraceOf (lines_of text) trace
  pub disciplined : IsDisciplined trace.events
  pub bytes : List ℕ
  pub scan : IsReportOn (IsScan by_variable) false trace bytes
  pub holds : P bytes

-- of a source: the bytes still to come, how many bytes it has given, and how many reads have failed, at the start and at the end; of a sink: the bytes that it took, and how many writes have failed
module _ {A B : Type 0} (remaining : A → Option (List ℕ)) (given failed_reads : A → ℕ) (source left : A) (taken : B → Option (List ℕ)) (failed_writes : B → ℕ) (sink written : B) where
  -- P holds of the text of a source that was read to its end
  abbrev pub OfAll : (List ℕ → Type 0) → Type 0
  OfAll P = ReadsAll (remaining source) (remaining left) (given source) (given left) P

  -- P holds of the text of a source that may have been read in part
  abbrev pub OfText : (List ℕ → Type 0) → Type 0
  OfText P = ReadsFront (remaining source) (remaining left) (given source) (given left) P

  pub record IsScanOutcome (by_variable : Bool) {T : Type 0} (answer : Result T ScanError) : Type 0 where
    -- the text was read to its end and has no fault, and its scan was written, of places by variable or not
    pub read : IfOk answer (λ _. OfAll (λ text. HasScan by_variable text (Appends (taken sink) (taken written))))
    -- a refused trace has this fault first
    pub refused : OnTrace answer (λ line fault. OfText (λ text. IsFirstFault (scan_limits text) text line fault))
    -- a text that has too many lines has as many
    pub many : OnTooManyLines answer (OfText (λ text. 2 ^ 64 - 1 ≤ length (lines_of text)))
    -- nothing was written but after the end of a text that has no fault
    pub unwritten : OnUnwritten answer (written ≡ sink)
    pub silent : IfSome (remaining source) (λ text. (line : ℕ) (fault : Fault) → IsFirstFault (scan_limits text) text line fault → written ≡ sink)
    -- where the sink failed the text was read to its end and has no fault, and less than its scan was written, the front of it
    pub cut : OnSink answer (OfAll (λ text. HasScan by_variable text (AppendsPrefix (taken sink) (taken written))))
    -- what the sink took before stays as it was
    pub grown : (bytes : List ℕ) × Appends (taken sink) (taken written) bytes
    -- the source lost what was read
    pub lost : (bytes : List ℕ) × Moves (remaining source) (remaining left) (given source) (given left) bytes
    -- an error of a device comes with one failure more of that device, and no other answer does
    pub source_counted : CountsFailure source_failed (failed_reads source) (failed_reads left) answer
    pub sink_counted : CountsFailure sink_failed (failed_writes sink) (failed_writes written) answer
