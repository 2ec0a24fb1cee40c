-- From what the parts of a run answer to what the run says of the text.
use Rattle.std.proofs.Common.{◌≡◌, ◌⊎◌, ℕ, inl, inr, Bool, List, length, Option, Result, Ok, Err, IsErrAnd, sym, ap, subst, ◌∙◌}
use Rattle.shb_run.proofs.Words.{All, AreShown, Choice, CutsBlocksOn, Event, Grows-same, HasReported, HasSummed, HasTrace, IsAccepted, IsDisciplined, IsRaceList, IsReadingOf, IsReported, IsScan, IsShown, IsTraceOf, LineFault, ListedBy, ListsPlaces, ListsRaces, ListsSchedulable, Nearest, ReportsTrace, Summary, These, TraceData, counts_of, lines_of, once_listed, places_listed, races_listed, standard_limits, summary_of}
use Rattle.shb_lines.proofs.events.Decide.{decide_below_pred, printed_exists}
use Rattle.shb_lines.proofs.events.Schedulable.{printed_is_schedule}
use Rattle.shb_lines.proofs.events.Unschedulable.{race_of_schedule}
use Rattle.shb_discipline.proofs.FirstFault.{accepted}
use Rattle.shb_write.specs.declared.errors.WriteError.{WriteError}
use Rattle.shb_write.specs.declared.errors.WriteError.TheVariants as writing
use Rattle.shb_check.specs.Outcomes.{Grows}
use Rattle.shb_run.proofs.Reports.{known_blocks, known_cut, known_written}

schedulable_of : (events : List Event) (races : List (ℕ × ℕ)) → IsDisciplined events → IsRaceList events races → ListsSchedulable events races
schedulable_of events races disciplined are = record {
  listed = λ i j is.
      let printed = printed_exists events disciplined i j in
      (printed.0, printed.1, printed_is_schedule events printed.0 i j disciplined ((are.all i j).0 is) printed.1);
  unlisted = λ i j earlier conflict absent s schedule. absent ((are.all i j).1 (race_of_schedule events s i j conflict earlier schedule));
  ordered = λ i j earlier conflict absent.
      elim (decide_below_pred events disciplined i j) [
        | inl below ↦ below
        | inr not ↦ absurd (absent ((are.all i j).1 (record { conflict = conflict; earlier = earlier; unordered = not })))
      ];
}

places_of : (by_variable : Bool) (trace : TraceData) (races : List (ℕ × ℕ)) → IsDisciplined trace.events → IsScan by_variable trace races → ListsPlaces by_variable trace races
places_of by_variable trace races disciplined lists = record {
  race = races_listed by_variable trace races lists;
  listed = λ i j is.
      let printed = printed_exists trace.events disciplined i j in
      (printed.0, printed.1, printed_is_schedule trace.events printed.0 i j disciplined (races_listed by_variable trace races lists i j is) printed.1);
  each = places_listed by_variable trace races lists;
  once = once_listed by_variable trace races lists;
}

races_of : (choice : Choice) (trace : TraceData) (races : List (ℕ × ℕ)) → IsDisciplined trace.events → ListedBy choice trace races → ListsRaces choice trace races
races_of All trace races = schedulable_of trace.events races
races_of (Nearest by_variable) trace races = places_of by_variable trace races

pub reported_of : (choice : Choice) (ws : Bool) (text : List ℕ) (read : TraceData) (stop : Option LineFault) (events : List Event) (trace : TraceData) (summary : Summary) (old new : Option (List ℕ))
    → IsDisciplined events → events ≡ trace.events → IsAccepted read stop trace → ReportsTrace (ListedBy choice) ws trace summary old new → AreShown (counts_of trace) × IsShown summary.races → IsReadingOf standard_limits text read stop
    → IsReported choice ws text summary old new
reported_of choice ws text read stop events trace summary old new disciplined same accepted written fits reading = record {
  faultless = accepted.faultless text reading;
  bytes = written.bytes;
  report = record { trace = trace; trace_is = subst (IsTraceOf (lines_of text)) (sym accepted.same) (accepted.whole text reading); report = written.report };
  disciplined = subst IsDisciplined same disciplined;
  written = written.written;
  summary_is = written.summary_is;
  fits = fits;
  lists = races_of choice trace written.report.races (subst IsDisciplined same disciplined) written.report.races_are;
}

-- a text that has no fault, and what holds of its trace
pub has_trace : (text : List ℕ) (read : TraceData) (stop : Option LineFault) (trace : TraceData) (P : TraceData → Type 0) → IsAccepted read stop trace → P trace → IsReadingOf standard_limits text read stop → HasTrace text P
has_trace text read stop trace P accepted holds reading = record {
  faultless = accepted.faultless text reading;
  trace = trace;
  trace_is = subst (IsTraceOf (lines_of text)) (sym accepted.same) (accepted.whole text reading);
  holds = holds;
}

pub or_then : {A B C : Type 0} → A ⊎ B → (B → C) → A ⊎ C
or_then (inl a) then = inl a
or_then (inr b) then = inr (then b)

-- a report on these races is one of this choice
module _ {K : Type 0} (choice : Choice) (ws : Bool) (trace : TraceData) (races : List (ℕ × ℕ)) (lists : ListedBy choice trace races) (taken : K → Option (List ℕ)) (failures : K → ℕ) (old new : K) where
  pub summed : (U : Type 0) (x : U) (summary : Summary) (count : ℕ) → summary ≡ summary_of trace count → AreShown (counts_of trace) × IsShown summary.races → count ≡ length races
      → HasReported {T = U} (These races) ws trace taken failures old new (Ok x) → HasSummed choice ws trace taken failures old new (Ok summary)
  summed U x summary count is fits counted has =
      let written = has.report in record {
        report = record {
          bytes = written.bytes;
          report = (known_written (ListedBy choice) ws trace races lists (taken old) (taken new) written).report;
          written = written.written;
          summary_is = is ∙ ap (summary_of trace) (counted ∙ sym (ap length written.report.races_are));
        };
        fits = fits;
        cut = tt;
        memory = tt;
        counted = has.counted;
      }

  pub summed_error : (U : Type 0) (error : WriteError) (r : Result Summary WriteError) → IsErrAnd r (λ e. e ≡ error) → HasReported {T = U} (These races) ws trace taken failures old new (Err error)
      → HasSummed choice ws trace taken failures old new r
  summed_error U error (Ok x) is has = absurd is
  summed_error U error (Err e) is has = subst (λ (e : WriteError). HasSummed choice ws trace taken failures old new (Err e)) (sym is) (by error has)
    where
      by : (error : WriteError) → HasReported {T = U} (These races) ws trace taken failures old new (Err error) → HasSummed choice ws trace taken failures old new (Err error)
      by writing.Sink has = record { report = tt; fits = tt; cut = known_cut (ListedBy choice) ws trace races lists (taken old) (taken new) has.cut; memory = tt; counted = has.counted }
      by (writing.Memory _) has = record { report = tt; fits = tt; cut = tt; memory = or_then has.memory (known_blocks (ListedBy choice) ws trace races lists (taken old) (taken new)); counted = has.counted }

-- known bytes that grew by the front of a report, or by nothing
pub grown_of_refused : {K : Type 0} (taken : K → Option (List ℕ)) (Lists : TraceData → List (ℕ × ℕ) → Type 0) (ws : Bool) (trace : TraceData) (before after : K)
    → (after ≡ before) ⊎ CutsBlocksOn Lists ws trace (taken before) (taken after) → Grows (taken before) (taken after)
grown_of_refused taken Lists ws trace before after (inl same) = subst (λ s. Grows (taken before) (taken s)) (sym same) (Grows-same (taken before))
grown_of_refused taken Lists ws trace before after (inr refused) = (_, refused.cut.written)
