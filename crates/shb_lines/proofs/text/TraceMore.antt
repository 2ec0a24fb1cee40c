-- What one step more does to the trace of some lines.
use Rattle.std.proofs.Common.{◌≡◌, ◌+◌, ℕ, List, [], ◌∷◌, ◌++◌, length, map, slice_index_or, None, Some, Ok, Err, refl, sym, ap, subst, ◌∙◌, arith, append-nil, length-append}
use Rattle.std.specs.List.{AllZip, cons_option}
use Rattle.std.specs.Str.Lines.{strip_carriage_return}
use Rattle.std.proofs.lemmas.List.{map-append}
use Rattle.std.proofs.Math.Seq.{get_or-append_seam}
use Rattle.shb_lines.specs.declared.numbering.Step.{Step}
use Rattle.shb_lines.specs.text.Numbering.{IsStepOf, event_of, with_operand, with_step, with_thread}
use Rattle.shb_lines.specs.text.Grammar.{Meaning, NamedEvent}
use Rattle.shb_lines.specs.text.Meaning.{meaning}
use Rattle.shb_lines.specs.text.Numbers.{IsEventOf, Tables, events_of, tables_of_events}
use Rattle.shb_lines.specs.text.Text.{LocatedEvent, located, trace_of}
use Rattle.shb_lines.specs.text.TraceData.{IsTraceOf, TraceData, tables_in}
use Rattle.shb_lines.proofs.text.TraceLemmas.{AllZip-push, IsEventOf-more, tables-push, trace_of-push, trace_of-some}

-- a list that ends in y by one way, and in z by another
last_one : {X : Type 0} (xs : List X) (y z : X) → xs ++ y ∷ [] ≡ xs ++ z ∷ [] → y ≡ z
last_one xs y z same = sym (get_or-append_seam xs y [] y) ∙ ap (λ l. slice_index_or l (length xs) y) same ∙ get_or-append_seam xs z [] y

abbrev event_in : LocatedEvent → NamedEvent
event_in e = e.event

-- where the last line gives an event, its meaning is this event
last_located : (lines : List (List ℕ)) (line : List ℕ) (e : NamedEvent) → events_of (lines ++ line ∷ []) ≡ events_of lines ++ e ∷ [] → trace_of (lines ++ line ∷ []) ≡ trace_of lines ++ record { line = 1 + length lines; text = strip_carriage_return line; event = e } ∷ []
last_located lines line e same = by (meaning (strip_carriage_return line)) refl
  where
    grown : length (events_of (lines ++ line ∷ [])) ≡ length (events_of lines) + 1
    grown = ap length same ∙ length-append (events_of lines) (e ∷ [])

    unchanged : (m : Meaning) → meaning (strip_carriage_return line) ≡ m → located (1 + length lines) (strip_carriage_return line) m ≡ None → trace_of (lines ++ line ∷ []) ≡ trace_of lines
    unchanged m is gives_none = trace_of-push lines line ∙ ap (λ o. trace_of lines ++ cons_option o []) (ap (located (1 + length lines) (strip_carriage_return line)) is ∙ gives_none) ∙ append-nil (trace_of lines)

    never : trace_of (lines ++ line ∷ []) ≡ trace_of lines → ⊥
    never none = let count : length (events_of (lines ++ line ∷ [])) ≡ length (events_of lines) = ap (λ t. length (map event_in t)) none in omega (arith, count, grown)

    by : (m : Meaning) → meaning (strip_carriage_return line) ≡ m → trace_of (lines ++ line ∷ []) ≡ trace_of lines ++ record { line = 1 + length lines; text = strip_carriage_return line; event = e } ∷ []
    by (Ok (Some other)) is =
        let trace = trace_of-some lines line other is in
        let events : events_of lines ++ other ∷ [] ≡ events_of lines ++ e ∷ [] = sym (ap (map event_in) trace ∙ map-append event_in (trace_of lines) _) ∙ same in
        let one : other ≡ e = last_one (events_of lines) other e events in
        trace ∙ ap (λ (x : NamedEvent). trace_of lines ++ record { line = 1 + length lines; text = strip_carriage_return line; event = x } ∷ []) one
    by (Ok None) is = absurd (never (unchanged (Ok None) is refl))
    by (Err fault) is = absurd (never (unchanged (Err fault) is refl))

-- the trace of the lines with that line more
pub step_more : (lines : List (List ℕ)) (line : List ℕ) (trace : TraceData) (tables : Tables) (step : Step) (e : NamedEvent) → IsTraceOf lines trace → events_of (lines ++ line ∷ []) ≡ events_of lines ++ e ∷ []
    → tables ≡ tables_of_events (events_of (lines ++ line ∷ [])) → IsStepOf tables step e → IsTraceOf (lines ++ line ∷ []) (with_step trace tables step (1 + length lines) (strip_carriage_return line))
step_more lines line trace tables step e h events tables_is is =
    let last : LocatedEvent = record { line = 1 + length lines; text = strip_carriage_return line; event = e } in
    let trace_is = last_located lines line e events in
    let grown : Tables = with_operand (with_thread (tables_in trace) e.thread) e.kind e.operand in
    let same : tables ≡ grown = tables_is ∙ ap tables_of_events events ∙ tables-push (events_of lines) e ∙ ap (λ t. with_operand (with_thread t e.thread) e.kind e.operand) (sym h.tables_are) in
    let own : IsEventOf grown (event_of step (1 + length lines)) last = subst (λ t. IsEventOf t (event_of step (1 + length lines)) last) same (record { numbered = record { thread = is.thread; operation = is.operation }; line_is = refl }) in
    record {
      tables_are = tables_is;
      events_are = subst (λ t. AllZip (IsEventOf t) (trace.events ++ event_of step (1 + length lines) ∷ []) (trace_of (lines ++ line ∷ []))) (sym same)
          (subst (AllZip (IsEventOf grown) (trace.events ++ event_of step (1 + length lines) ∷ [])) (sym trace_is)
          (AllZip-push (IsEventOf (tables_in trace)) (IsEventOf grown) (IsEventOf-more (tables_in trace) e.thread e.kind e.operand) trace.events (trace_of lines) (event_of step (1 + length lines)) last h.events_are own));
      lines_are = ap (λ ls. ls ++ strip_carriage_return line ∷ []) h.lines_are ∙ sym (map-append (λ (x : LocatedEvent). x.text) (trace_of lines) (last ∷ [])) ∙ ap (map (λ (x : LocatedEvent). x.text)) (sym trace_is);
    }

-- lines that give nothing change nothing of the trace
pub step_none : (lines more : List (List ℕ)) (trace : TraceData) → trace_of more ≡ trace_of lines → IsTraceOf lines trace → IsTraceOf more trace
step_none lines more trace same h = record {
  tables_are = h.tables_are ∙ ap (λ (t : List LocatedEvent). tables_of_events (map event_in t)) (sym same);
  events_are = subst (AllZip (IsEventOf (tables_in trace)) trace.events) (sym same) h.events_are;
  lines_are = h.lines_are ∙ ap (map (λ (x : LocatedEvent). x.text)) (sym same);
}
