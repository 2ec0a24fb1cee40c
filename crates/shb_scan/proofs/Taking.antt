-- What is known after what was taken next.
use Rattle.std.proofs.Common.{◌≡◌, inl, inr, ◌+◌, ◌-◌, ◌^◌, ◌<◌, ◌≤◌, ℕ, Bool, true, false, List, [], ◌∷◌, ◌++◌, length, map, take, Option, None, Some, refl, sym, ap, subst, ◌∙◌, arith, append_assoc, append-nil, length-append}
use Rattle.shb_scan.proofs.Words.{AreLinesOf, Event, Fault, HasEnded, HasNoted, HasScanned, HasTaken, IsAtEnd, IsEventOf, IsFirstFault, IsNext, IsStateAfter, IsTakenNext, IsTraceOf, IsWithin, IsWithinAfter, LocatedEvent, MayCome, Scan, Spot, Step, Tables, TraceData, event_of, events_of, fed, lines_of, most_scan_events, rest_of, scan_bounds, scan_limits, strip_carriage_return, tables_in, tables_of, take-append-le, trace_of, with_step}
use Rattle.shb_lines.specs.declared.event_reader.EventReader.{EventReader}
use Rattle.shb_lines.specs.declared.event_reader.Taken.{Taken}
use Rattle.shb_lines.specs.declared.event_reader.Taken.TheVariants as takens
use Rattle.shb_lines.specs.declared.limits.Limits.{Limits}
use Rattle.shb_lines.specs.Lowest.{IsLowest}
use Rattle.shb_lines.specs.text.Faults.{HasNoLineFaultBefore, number_of}
use Rattle.shb_lines.proofs.text.TakenEvents.{faultless_in, front_whole, lines_of_fed}
use Rattle.shb_lines.proofs.text.TraceMore.{step_more, step_none}
use Rattle.shb_discipline.specs.Faults.{HasDisciplineFault, IsFirstDisciplineFault}
use Rattle.shb_discipline.proofs.Faultless.{may_come}
use Rattle.shb_discipline.proofs.FirstFault.{accepted, first_of_discipline, first_of_lines}
use Rattle.shb_scan.proofs.Pushes.{AllZip-length, at_push, count_map, front_push, last_push}

-- all bytes of a source that has ended were read
pub at_end : (left : Option (List ℕ)) → IsAtEnd left → rest_of left ≡ []
at_end None ended = refl
at_end (Some rest) ended = ended

-- the lines of the text go on after those that were taken
lines_split : (limits : Limits) (read : List ℕ) (lines : List (List ℕ)) (left : Option (List ℕ)) (reader : EventReader) → HasTaken limits read lines left reader → (rest : List (List ℕ)) × (lines_of (read ++ rest_of left) ≡ lines ++ rest)
lines_split limits read lines left reader h = by reader.ended h.lines_are
  where
    by : (ended : Bool) → AreLinesOf ended read lines reader.lines.held left → (rest : List (List ℕ)) × (lines_of (read ++ rest_of left) ≡ lines ++ rest)
    by false is =
        let held : List ℕ = reader.lines.held in
        (lines_of (held ++ rest_of left), ap lines_of (ap (λ r. r ++ rest_of left) is ∙ append_assoc (fed lines) held (rest_of left)) ∙ lines_of_fed lines (held ++ rest_of left) h.one_line_each)
    by true is = ([], ap lines_of (ap (λ r. read ++ r) (at_end left is.1) ∙ append-nil read) ∙ is.0 ∙ sym (append-nil lines))

-- a trace has as many events as its lines give
pub events_count : (lines : List (List ℕ)) (trace : TraceData) → IsTraceOf lines trace → length trace.events ≡ length (events_of lines)
events_count lines trace h = AllZip-length (IsEventOf (tables_in trace)) trace.events (trace_of lines) h.events_are ∙ sym (count_map (λ (e : LocatedEvent). e.event) (trace_of lines))

module _ (read : List ℕ) (lines : List (List ℕ)) (left : Option (List ℕ)) (scan : Scan) where
  abbrev text : List ℕ
  text = read ++ rest_of left

  -- all lines that can be counted were taken
  pub nothing_next : IsNext read lines left scan takens.Nothing → 2 ^ 64 - 1 ≤ length (lines_of text)
  nothing_next h =
      let split = lines_split scan_bounds read lines left scan.reader h.next in
      omega (arith, h.many refl, h.next.line_is, ap length split.1, length-append lines split.0)

  -- a line has a fault of its own
  pub fault_next : (fault : Fault) → IsNext read lines left scan (takens.Fault fault) → IsFirstFault (scan_limits text) text scan.reader.line fault
  fault_next fault h = first_of_lines text (length lines) h.trace (subst (λ ls. IsTraceOf ls h.trace) (sym h.next.1) h.trace_is) (scan_limits text) scan.reader.line fault h.next.2 h.next.0 h.noted.disciplined

  -- the end of the source
  pub end_next : IsNext read lines left scan takens.End → HasEnded read left scan
  end_next h =
      let none : text ≡ read = ap (λ r. read ++ r) (at_end left h.next.2) ∙ append-nil read in
      let all : lines_of read ≡ lines = ap lines_of (sym none) ∙ h.next.0 in
      let bare : HasNoLineFaultBefore (scan_limits read) read (length (lines_of read)) = subst (λ t. HasNoLineFaultBefore (scan_limits t) t (length (lines_of t))) none h.next.1 in
      let trace_is : IsTraceOf (lines_of read) h.trace = subst (λ ls. IsTraceOf ls h.trace) (sym all) h.trace_is in
      record {
        ended = h.next.2;
        faultless = (accepted (scan_limits read) read h.trace (bare, trace_is) h.noted.disciplined).0;
        scanned = record {
          taken = subst (λ ls. HasTaken scan_bounds read ls left scan.reader) (sym all) h.next.3;
          within = h.within;
          trace = h.trace;
          trace_is = trace_is;
          spots = h.spots;
          noted = h.noted;
        };
      }

  -- the lines with that of the last event
  abbrev more : List (List ℕ)
  more = lines ++ scan.reader.lines.line ∷ []

  module _ (step : Step) (h : IsNext read lines left scan (takens.Step step)) where
    abbrev now : TraceData
    now = with_step h.trace (tables_of scan.reader.numbering) step (1 + length lines) (strip_carriage_return scan.reader.lines.line)

    now_is : IsTraceOf more now
    now_is = step_more lines scan.reader.lines.line h.trace (tables_of scan.reader.numbering) step h.next.1.0 h.trace_is h.next.1.2 h.next.0.numbered.tables_are h.next.1.1

    few : length h.trace.events < most_scan_events
    few = omega (arith, h.within.few, h.next.0.numbered.count_is, ap length h.next.1.2, length-append (events_of lines) (h.next.1.0 ∷ []), events_count lines h.trace h.trace_is)

    -- its event may not come
    pub undisciplined_next : (fault : Fault) → ((past : List Event) (e : Event) → e.thread ≡ step.thread → e.op ≡ step.op → IsStateAfter past scan.state → IsLowest number_of (HasDisciplineFault past e) (Some fault)) → IsFirstFault (scan_limits text) text scan.reader.line fault
    undisciplined_next fault lowest =
        let split = lines_split scan_bounds read more left scan.reader h.next.0 in
        let event : Event = event_of step (1 + length lines) in
        let line_is : scan.reader.line ≡ 1 + length lines = omega (arith, h.next.0.line_is, length-append lines (scan.reader.lines.line ∷ [])) in
        let front : take (length h.trace.events) now.events ≡ h.trace.events = front_push h.trace.events event (length h.trace.events) refl in
        let first : IsFirstDisciplineFault now.events scan.reader.line fault = record {
          position = length h.trace.events;
          event = event;
          at = last_push h.trace.events event;
          line_is = line_is;
          lowest = subst (λ past. IsLowest number_of (HasDisciplineFault past event) (Some fault)) (sym front) (lowest h.trace.events event refl refl h.noted.state_is);
          earlier = λ k e lt at. elim (at_push h.trace.events event k e at) [
            | inl low ↦ subst (λ past. MayCome past e) (sym (take-append-le k h.trace.events (event ∷ []) (omega (arith, low.0)))) (h.noted.disciplined k e low.1)
            | inr last ↦ absurd (omega (arith, lt, last.0))
          ];
        } in
        first_of_discipline text (length more) now (subst (λ ls. IsTraceOf ls now) (sym (front_whole scan_bounds text more split.0 split.1)) now_is) (scan_limits text)
        (faultless_in scan_bounds text more split.0 split.1 h.next.0.faultless) scan.reader.line fault first

    -- its event was noted
    pub step_next : (new : Scan) (before : ℕ) → length (events_of lines) ≡ before → new.reader ≡ scan.reader
        → ((past : List Event) (e : Event) → e.thread ≡ step.thread → e.op ≡ step.op → IsStateAfter past scan.state → IsLowest number_of (HasDisciplineFault past e) None)
        → ((trace : TraceData) (spots : List Spot) (tables : Tables) (line : ℕ) → HasNoted trace spots scan.locations scan.state scan.nearest → MayCome trace.events (event_of step line) → length trace.events < most_scan_events
        → (spot : Spot) × HasNoted (with_step trace tables step line (strip_carriage_return scan.reader.lines.line)) (spots ++ spot ∷ []) new.locations new.state new.nearest)
        → (after : List (List ℕ)) × HasScanned read after left new × (new.reader.numbering.events ≡ before + 1)
    step_next new before count same clean noted =
        let event : Event = event_of step (1 + length lines) in
        let may : MayCome h.trace.events event = may_come h.trace.events event (clean h.trace.events event refl refl h.noted.state_is) in
        let here = noted h.trace h.spots (tables_of scan.reader.numbering) (1 + length lines) h.noted may few in (
          more,
          record {
            taken = subst (HasTaken scan_bounds read more left) (sym same) h.next.0;
            within = subst (λ (r : EventReader). IsWithin scan_bounds r.numbering) (sym same) h.within;
            trace = now;
            trace_is = now_is;
            spots = h.spots ++ here.0 ∷ [];
            noted = here.1;
          },
          omega (arith, ap (λ (r : EventReader). r.numbering.events) same, h.next.0.numbered.count_is, ap length h.next.1.2, length-append (events_of lines) (h.next.1.0 ∷ []), count),
        )

-- what is taken next, where lines that give nothing were passed
pub next_of : (read more : List ℕ) (lines empty : List (List ℕ)) (before left : Option (List ℕ)) (old mid : Scan) (limits : Limits) (taken : Taken) → HasScanned read lines before old → limits ≡ scan_bounds → trace_of (lines ++ empty) ≡ trace_of lines
    → IsTakenNext limits (read ++ more) (lines ++ empty) left mid.reader taken → IsWithinAfter limits mid.reader.numbering taken → (taken ≡ takens.Nothing → 2 ^ 64 - 1 ≤ mid.reader.line)
    → mid.locations ≡ old.locations → mid.state ≡ old.state → mid.nearest ≡ old.nearest → IsNext (read ++ more) (lines ++ empty) left mid taken
next_of read more lines empty before left old mid limits taken h limits_are same next within many locations state nearest = record {
  trace = h.trace;
  trace_is = step_none lines (lines ++ empty) h.trace same h.trace_is;
  spots = h.spots;
  noted = subst (λ l. HasNoted h.trace h.spots l mid.state mid.nearest) (sym locations) (subst (λ s. HasNoted h.trace h.spots old.locations s mid.nearest) (sym state) (subst (HasNoted h.trace h.spots old.locations old.state) (sym nearest) h.noted));
  next = subst (λ l. IsTakenNext l (read ++ more) (lines ++ empty) left mid.reader taken) limits_are next;
  within = subst (λ l. IsWithinAfter l mid.reader.numbering taken) limits_are within;
  many = many;
}

-- so many events were there before it
pub count_of : (read : List ℕ) (lines empty : List (List ℕ)) (left : Option (List ℕ)) (scan : Scan) → HasScanned read lines left scan → trace_of (lines ++ empty) ≡ trace_of lines → length (events_of (lines ++ empty)) ≡ scan.reader.numbering.events
count_of read lines empty left scan h same = ap (λ (t : List LocatedEvent). length (map (λ (e : LocatedEvent). e.event) t)) same ∙ sym h.taken.numbered.count_is
