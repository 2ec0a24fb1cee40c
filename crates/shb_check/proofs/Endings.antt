-- From what the parts of a check answer to what the check says of the texts and leaves of its devices, exit by exit.
use Rattle.std.proofs.Common.{◌≡◌, ◌⊎◌, ◌+◌, ◌≤◌, inl, inr, ℕ, List, [], None, Some, Option, Result, Ok, Err, IfSome, IfErr, IsErrAnd, drop, refl, sym, subst, arith}
use Rattle.std.proofs.lemmas.Option.{IfSome_then}
use Rattle.std.specs.Io.KnownBytes.{Appends}
use Rattle.shb_io.specs.Devices.{AppendsPrefix, CountsFailure}
use Rattle.shb_io.proofs.Growth.{Appends-nil}
use Rattle.shb_lines.specs.declared.event.Event.{Event}
use Rattle.shb_lines.specs.declared.fault.Fault.{Fault}
use Rattle.shb_lines.specs.declared.fault.LineFault.{LineFault}
use Rattle.shb_check.proofs.Words.{HasChecked, IsChecked, IsDisciplined, IsReadingOf, IsTraceOf, IsVerdictFor, TraceData, Verdict, lines_of, most_read, standard_limits, verdict_bytes}
use Rattle.shb_lines.specs.text.Taking.{ReadsText, TakesAtMost, read_failed}
use Rattle.shb_lines.proofs.text.TakingLemmas.{reads_left, reads_then, reads_told}
use Rattle.shb_discipline.specs.Faults.{IsFirstFault, HasNoFault, IsRefusal}
use Rattle.shb_discipline.specs.declared.checking.CheckError.{CheckError}
use Rattle.shb_discipline.specs.declared.checking.CheckError.TheVariants as checking
use Rattle.shb_discipline.proofs.FirstFault.{accepted, stopped, undisciplined}
use Rattle.shb_check.specs.declared.errors.RunError.{RunError}
use Rattle.shb_check.specs.declared.errors.RunError.TheVariants.{Trace, Source, Sink, Memory}
use Rattle.shb_lines.specs.declared.read.ReadError.{ReadError}
use Rattle.shb_lines.specs.declared.read.ReadError.TheVariants as reading
use Rattle.shb_check.specs.Errors.{error_of_checking, error_of_reading, IsAccepted, IsRefusalOf}
use Rattle.shb_check.specs.Outcomes.{Grows, OnJudged, OnMemory, OnNoTrace, OnSink, OnTrace, OnWriting, sink_failed, source_failed}

-- a text with no fault has no first one
pub no_first_fault : (text : List ℕ) (line : ℕ) (fault : Fault) → HasNoFault standard_limits text → IsFirstFault standard_limits text line fault → ⊥
no_first_fault text line fault none first = none first.before fault first.within first.lowest.0

-- the lines were stopped, and no event before that breaks the discipline
pub stopped_of : (read : TraceData) (stop : Option LineFault) (found : LineFault) (events : List Event) (trace : TraceData)
    → IsDisciplined events → events ≡ trace.events → trace ≡ read → stop ≡ Some found → (text : List ℕ) → IsReadingOf standard_limits text read stop → IsFirstFault standard_limits text found.line found.fault
stopped_of read stop found events trace disciplined same as_read is text reading =
    stopped standard_limits text read found (subst (IsReadingOf standard_limits text read) is reading) (subst (λ t. IsDisciplined t.events) as_read (subst IsDisciplined same disciplined))

-- neither a line nor an event has a fault
pub accepted_of : (read : TraceData) (stop : Option LineFault) (events : List Event) (trace : TraceData)
    → IsDisciplined events → events ≡ trace.events → trace ≡ read → stop ≡ None → IsAccepted read stop trace
accepted_of read stop events trace disciplined same as_read is = record {
  same = as_read;
  faultless = λ text reading. (all text reading).0;
  whole = λ text reading. (all text reading).1;
}
  where
    all : (text : List ℕ) → IsReadingOf standard_limits text read stop → HasNoFault standard_limits text × IsTraceOf (lines_of text) read
    all text reading = accepted standard_limits text read (subst (IsReadingOf standard_limits text read) is reading) (subst (λ t. IsDisciplined t.events) as_read (subst IsDisciplined same disciplined))

-- what the check of the discipline refuses is refused for its first fault
pub refused_of : {T : Type 0} (read : TraceData) (stop : Option LineFault) (error : CheckError) (r : Result T RunError)
    → IsErrAnd r (λ e. e ≡ error_of_checking error) → IsRefusal read.events error → IfErr r (IsRefusalOf read stop)
refused_of read stop error (Ok x) is refusal = absurd is
refused_of read stop error (Err e) is refusal = subst (IsRefusalOf read stop) (sym is) (told error refusal)
  where
    told : (error : CheckError) → IsRefusal read.events error → IsRefusalOf read stop (error_of_checking error)
    told (checking.Undisciplined line fault) first = λ text reading. undisciplined standard_limits text read stop line fault reading first
    told (checking.Memory _) first = tt

-- a text with no fault has none of which anything is to be said
pub none_found : (read : TraceData) (stop : Option LineFault) (trace : TraceData) (known : Option (List ℕ)) (P : Type 0)
    → IsAccepted read stop trace → IfSome known (λ text. IsReadingOf standard_limits text read stop) → IfSome known (λ text. (line : ℕ) (fault : Fault) → IsFirstFault standard_limits text line fault → P)
none_found read stop trace known P accepted reading = IfSome_then known reading (λ text one line fault first. absurd (no_first_fault text line fault (accepted.faultless text one) first))

-- known bytes that nothing was done to
pub Grows-same : (a : Option (List ℕ)) → Grows a a
Grows-same a = ([], Appends-nil a)

-- the verdict on two texts that were read
pub checked_of : (text report : List ℕ) (read : TraceData) (stop : Option LineFault) (events : List Event) (trace : TraceData) (verdict : Verdict)
    → IsDisciplined events → events ≡ trace.events → IsAccepted read stop trace → IsReadingOf standard_limits text read stop → IsVerdictFor trace report verdict → IsChecked text report verdict
checked_of text report read stop events trace verdict disciplined same accepted reading is = record {
  faultless = accepted.faultless text reading;
  verdict_is = record {
    trace = trace;
    trace_is = subst (IsTraceOf (lines_of text)) (sym accepted.same) (accepted.whole text reading);
    disciplined = subst IsDisciplined same disciplined;
    verdict_is = is;
  };
}

-- what holds anyway, of any fault of which something is to be said
pub of_any_fault : (known : Option (List ℕ)) (P : Type 0) → P → IfSome known (λ text. (line : ℕ) (fault : Fault) → IsFirstFault standard_limits text line fault → P)
of_any_fault None P p = tt
of_any_fault (Some text) P p = λ line fault first. p

-- nothing is taken of a source that stays as it is
takes_nothing : (n : ℕ) (known : Option (List ℕ)) → TakesAtMost n known known
takes_nothing n None = ([], omega arith, tt)
takes_nothing n (Some text) = ([], omega arith, refl)

-- where an error names no sink nothing was written
not_written : {C : Type 0} (error : RunError) (sink : C) (failures : ℕ) (P Q : Type 0) → OnSink {T = Verdict} (Err error) ⊥
    → OnNoTrace {T = Verdict} (Err error) (sink ≡ sink) × OnMemory {T = Verdict} (Err error) (sink ≡ sink) × OnSink {T = Verdict} (Err error) P × OnWriting {T = Verdict} (Err error) Q
    × CountsFailure {T = Verdict} sink_failed failures failures (Err error)
not_written (Trace line fault) sink failures P Q none = (refl, tt, tt, tt, refl)
not_written Source sink failures P Q none = (refl, tt, tt, tt, refl)
not_written Sink sink failures P Q none = absurd none
not_written (Memory _) sink failures P Q none = (tt, refl, tt, tt, refl)

-- the exits of a check
module _ {A B C : Type 0} (remaining : A → Option (List ℕ)) (given failures : A → ℕ) (source left : A) (remaining_there : B → Option (List ℕ)) (given_there failures_there : B → ℕ) (reports : B)
    (taken : C → Option (List ℕ)) (failed_writes : C → ℕ) (sink : C) (lost : TakesAtMost most_read (remaining source) (remaining left)) (gave : given left ≤ given source + most_read) where
  -- the trace has no text of which Q is to be said
  abbrev IfFault : Type 0 → Type 0
  IfFault Q = IfSome (remaining source) (λ text. (line : ℕ) (fault : Fault) → IsFirstFault standard_limits text line fault → Q)

  -- nothing was written
  abbrev Unwritten : B → RunError → Type 0
  Unwritten reports_left error = HasChecked remaining given failures source left remaining_there given_there failures_there reports reports_left taken failed_writes sink sink (Err error)

  unwritten : (error : RunError) (reports_left : B) → OnSink {T = Verdict} (Err error) ⊥
      → OnTrace {T = Verdict} (Err error) (λ line fault. ReadsText most_read (remaining source) (remaining left) (given source) (given left) (λ text. IsFirstFault standard_limits text line fault))
      → IfFault (reports_left ≡ reports) → OnTrace {T = Verdict} (Err error) (λ _ _. reports_left ≡ reports) → (failures left ≡ failures source + 1 → reports_left ≡ reports)
      → OnJudged {T = Verdict} (Err error) (IfSome (remaining source) (λ text. remaining left ≡ Some (drop most_read text)))
      → TakesAtMost most_read (remaining_there reports) (remaining_there reports_left) → given_there reports_left ≤ given_there reports + most_read
      → (CountsFailure {T = Verdict} source_failed (failures source) (failures left) (Err error) × (failures_there reports_left ≡ failures_there reports))
      ⊎ ((failures source ≡ failures left) × CountsFailure {T = Verdict} source_failed (failures_there reports) (failures_there reports_left) (Err error))
      → Unwritten reports_left error
  unwritten error reports_left none refused unread unread_after unread_failed judged lost_there gave_there counted =
      let writes = not_written error sink (failed_writes sink) _ _ none in record {
        verdict = tt;
        line = tt;
        refused = refused;
        unwritten = writes.0;
        memory = writes.1;
        silent = of_any_fault (remaining source) (sink ≡ sink) refl;
        cut = writes.2;
        grown = Grows-same (taken sink);
        unread = unread;
        unread_after = unread_after;
        unread_failed = unread_failed;
        trace_taken = lost;
        trace_given = gave;
        trace_left = judged;
        report_taken = lost_there;
        report_given = gave_there;
        report_left = writes.3;
        sources = counted;
        sink_counted = writes.4;
      }

  -- the trace was not read
  pub of_unread : (U : Type 0) (error : ReadError) (r : Result Verdict RunError) → IsErrAnd r (λ e. e ≡ error_of_reading error) → CountsFailure {T = U} read_failed (failures source) (failures left) (Err error)
      → HasChecked remaining given failures source left remaining_there given_there failures_there reports reports taken failed_writes sink sink r
  of_unread U error (Ok x) is counted = absurd is
  of_unread U error (Err e) is counted = subst (Unwritten reports) (sym is) (by error counted)
    where
      by : (error : ReadError) → CountsFailure {T = U} read_failed (failures source) (failures left) (Err error) → Unwritten reports (error_of_reading error)
      by reading.Source counted = unwritten Source reports tt tt (of_any_fault (remaining source) _ refl) tt (λ _. refl) tt (takes_nothing most_read _) (omega arith) (inl (counted, refl))
      by (reading.Memory why) counted = unwritten (Memory why) reports tt tt (of_any_fault (remaining source) _ refl) tt (λ _. refl) tt (takes_nothing most_read _) (omega arith) (inl (counted, refl))

  module _ (read : TraceData) (stop : Option LineFault) (known : ReadsText most_read (remaining source) (remaining left) (given source) (given left) (λ text. IsReadingOf standard_limits text read stop))
      (no_failure : failures left ≡ failures source) where
    -- the trace was refused, or there was no memory to judge it
    pub of_refused : (error : RunError) (r : Result Verdict RunError) → IsErrAnd r (λ e. e ≡ error) → IsRefusalOf read stop error
        → HasChecked remaining given failures source left remaining_there given_there failures_there reports reports taken failed_writes sink sink r
    of_refused error (Ok x) is refusal = absurd is
    of_refused error (Err e) is refusal = subst (Unwritten reports) (sym is) (by error refusal)
      where
        by : (error : RunError) → IsRefusalOf read stop error → Unwritten reports error
        by (Trace line fault) refusal =
            unwritten (Trace line fault) reports tt (reads_then most_read (remaining source) (remaining left) _ _ (λ text. IsReadingOf standard_limits text read stop) (λ text. IsFirstFault standard_limits text line fault) known refusal)
            (of_any_fault (remaining source) _ refl) refl (λ _. refl) (reads_left most_read (remaining source) (remaining left) _ _ _ known) (takes_nothing most_read _) (omega arith) (inl (no_failure, refl))
        by Source refusal = absurd refusal
        by Sink refusal = absurd refusal
        by (Memory why) refusal = unwritten (Memory why) reports tt tt (of_any_fault (remaining source) _ refl) tt (λ _. refl) tt (takes_nothing most_read _) (omega arith) (inl (no_failure, refl))

    module _ (trace : TraceData) (accepted : IsAccepted read stop trace) (reports_left : B)
        (lost_there : TakesAtMost most_read (remaining_there reports) (remaining_there reports_left)) (gave_there : given_there reports_left ≤ given_there reports + most_read) where
      -- nothing is to be said of a fault, since there is none
      faultless : (P : Type 0) → IfFault P
      faultless P = none_found read stop trace (remaining source) P accepted (reads_told most_read (remaining source) (remaining left) _ _ _ known)

      -- the report was not read to its end, or there was no memory to judge it
      pub of_unjudged : (U : Type 0) (error : ReadError) (r : Result Verdict RunError) → IsErrAnd r (λ e. e ≡ error_of_reading error)
          → CountsFailure {T = U} read_failed (failures_there reports) (failures_there reports_left) (Err error)
          → HasChecked remaining given failures source left remaining_there given_there failures_there reports reports_left taken failed_writes sink sink r
      of_unjudged U error (Ok x) is counted = absurd is
      of_unjudged U error (Err e) is counted = subst (Unwritten reports_left) (sym is) (by error counted)
        where
          by : (error : ReadError) → CountsFailure {T = U} read_failed (failures_there reports) (failures_there reports_left) (Err error) → Unwritten reports_left (error_of_reading error)
          by reading.Source counted = unwritten Source reports_left tt tt (faultless _) tt (λ failed. absurd (omega arith)) tt lost_there gave_there (inr (sym no_failure, counted))
          by (reading.Memory why) counted = unwritten (Memory why) reports_left tt tt (faultless _) tt (λ failed. absurd (omega arith)) tt lost_there gave_there (inr (sym no_failure, counted))

      module _ (events : List Event) (verdict : Verdict) (disciplined : IsDisciplined events) (same : events ≡ trace.events)
          (there : ReadsText most_read (remaining_there reports) (remaining_there reports_left) (given_there reports) (given_there reports_left) (λ report. IsVerdictFor trace report verdict))
          (no_failure_there : failures_there reports_left ≡ failures_there reports) (written : C) where
        -- both texts were read, and this is their verdict
        both : (Q : List ℕ → List ℕ → Type 0) → ((text report : List ℕ) → IsChecked text report verdict → Q text report)
            → ReadsText most_read (remaining source) (remaining left) (given source) (given left) (λ text. ReadsText most_read (remaining_there reports) (remaining_there reports_left) (given_there reports) (given_there reports_left) (Q text))
        both Q then = reads_then most_read (remaining source) (remaining left) _ _ _ _ known (λ text r. reads_then most_read (remaining_there reports) (remaining_there reports_left) _ _ _ _ there (λ report v.
            then text report (checked_of text report read stop events trace verdict disciplined same accepted r v)))

        pub of_line : Appends (taken sink) (taken written) (verdict_bytes verdict) → failed_writes written ≡ failed_writes sink
            → HasChecked remaining given failures source left remaining_there given_there failures_there reports reports_left taken failed_writes sink written (Ok verdict)
        of_line line no_failed_write = record {
          verdict = both (λ text report. IsChecked text report verdict) (λ text report checked. checked);
          line = line;
          refused = tt;
          unwritten = tt;
          memory = tt;
          silent = faultless _;
          cut = tt;
          grown = (_, line);
          unread = faultless _;
          unread_after = tt;
          unread_failed = λ failed. absurd (omega arith);
          trace_taken = lost;
          trace_given = gave;
          trace_left = reads_left most_read (remaining source) (remaining left) _ _ _ known;
          report_taken = lost_there;
          report_given = gave_there;
          report_left = reads_left most_read (remaining_there reports) (remaining_there reports_left) _ _ _ there;
          sources = inl (no_failure, no_failure_there);
          sink_counted = no_failed_write;
        }

        pub of_failed_sink : AppendsPrefix (taken sink) (taken written) (verdict_bytes verdict) → failed_writes written ≡ failed_writes sink + 1
            → HasChecked remaining given failures source left remaining_there given_there failures_there reports reports_left taken failed_writes sink written (Err Sink)
        of_failed_sink front failed_write = record {
          verdict = tt;
          line = tt;
          refused = tt;
          unwritten = tt;
          memory = tt;
          silent = faultless _;
          cut = both (λ text report. (v : Verdict) × IsChecked text report v × AppendsPrefix (taken sink) (taken written) (verdict_bytes v)) (λ text report checked. (verdict, checked, front));
          grown = (_, front.2);
          unread = faultless _;
          unread_after = tt;
          unread_failed = λ failed. absurd (omega arith);
          trace_taken = lost;
          trace_given = gave;
          trace_left = reads_left most_read (remaining source) (remaining left) _ _ _ known;
          report_taken = lost_there;
          report_given = gave_there;
          report_left = reads_left most_read (remaining_there reports) (remaining_there reports_left) _ _ _ there;
          sources = inl (no_failure, no_failure_there);
          sink_counted = failed_write;
        }
