-- The line of an event of a trace, and the names that it gives.
use Rattle.std.proofs.Common.{◌≡◌, ℕ, zero, suc, List, [], ◌∷◌, Option, None, Some, Ok, Err, option_map, slice_get, refl, sym, ap, subst, ◌∙◌}
use Rattle.std.specs.Option.{IsSomeAnd, MatchOption, unwrap_or}
use Rattle.std.specs.List.{cons_option, filter_map}
use Rattle.std.specs.Str.Lines.{strip_carriage_return}
use Rattle.std.proofs.lemmas.Option.{slice_get-map}
use Rattle.std.proofs.lemmas.Slice.Zip.{AllZip-left}
use Rattle.shb_lines.specs.declared.event.Event.{Event}
use Rattle.shb_lines.specs.declared.event.Op.{Op}
use Rattle.shb_lines.specs.events.Events.{op_at, thread_at}
use Rattle.shb_lines.specs.text.Grammar.{IsLine, Meaning, NamedEvent}
use Rattle.shb_lines.specs.text.Meaning.{meaning}
use Rattle.shb_lines.specs.text.Numbers.{IsEventOf, IsNumber, IsOperation}
use Rattle.shb_lines.specs.text.Text.{LocatedEvent, event_on, located, trace_of}
use Rattle.shb_lines.specs.text.TraceData.{IsTraceOf, TraceData, tables_in}
use Rattle.shb_lines.proofs.events.Events.{event_of_thread, same_op}
use Rattle.shb_lines.proofs.text.GrammarLaw.{IsLine-meaning}

-- the event of a line is what the line means
means : (numbered : List (ℕ × List ℕ)) (k : ℕ) (l : LocatedEvent) → slice_get (filter_map event_on numbered) k ≡ Some l → meaning l.text ≡ Ok (Some l.event)
means [] k l at = absurd (let f : ⊥ = cc in f)
means (x ∷ numbered) k l at = by (meaning text) refl (λ i. means numbered i l) k at
  where
    text : List ℕ
    text = strip_carriage_return x.1

    by : (m : Meaning) → meaning text ≡ m → ((i : ℕ) → slice_get (filter_map event_on numbered) i ≡ Some l → meaning l.text ≡ Ok (Some l.event))
        → (i : ℕ) → slice_get (cons_option (located x.0 text m) (filter_map event_on numbered)) i ≡ Some l → meaning l.text ≡ Ok (Some l.event)
    by (Ok (Some e)) is rest zero here =
        let same : record { line = x.0; text = text; event = e } ≡ l = cc in
        subst (λ (one : LocatedEvent). meaning one.text ≡ Ok (Some one.event)) same is
    by (Ok (Some e)) is rest (suc i) here = rest i here
    by (Ok None) is rest i here = rest i here
    by (Err fault) is rest i here = rest i here

-- what is known of an event of a trace by its line
pub record GivesEvent (trace : TraceData) (k t : ℕ) (op : Op) : Type 0 where
  pub named : NamedEvent
  pub thread : IsNumber trace.threads t named.thread
  pub operation : IsOperation (tables_in trace) op named.kind named.operand
  pub line : IsLine (unwrap_or (slice_get trace.lines k) []) (Ok (Some named))

pub gives_event : (lines : List (List ℕ)) (trace : TraceData) (k t : ℕ) (op : Op) → IsTraceOf lines trace → thread_at trace.events k ≡ Some t → op_at trace.events k ≡ Some op → GivesEvent trace k t op
gives_event lines trace k t op is thread_is op_is = by (slice_get (trace_of lines) k) refl zipped
  where
    found : (e : Event) × (slice_get trace.events k ≡ Some e) × (e.thread ≡ t)
    found = event_of_thread trace.events k t thread_is

    op_same : found.0.op ≡ op
    op_same = same_op trace.events k op found.0 found.1 op_is

    zipped : IsSomeAnd (slice_get (trace_of lines) k) (IsEventOf (tables_in trace) found.0)
    zipped =
        subst (λ (o : Option Event). MatchOption o (Unit {0}) (λ e. IsSomeAnd (slice_get (trace_of lines) k) (IsEventOf (tables_in trace) e))) found.1
        (AllZip-left (IsEventOf (tables_in trace)) trace.events (trace_of lines) is.events_are k)

    line_is : (l : LocatedEvent) → slice_get (trace_of lines) k ≡ Some l → unwrap_or (slice_get trace.lines k) [] ≡ l.text
    line_is l at =
        ap (λ ls. unwrap_or (slice_get ls k) []) is.lines_are
        ∙ ap (λ o. unwrap_or o []) (slice_get-map (λ e. e.text) (trace_of lines) k ∙ ap (option_map (λ e. e.text)) at)

    by : (o : Option LocatedEvent) → slice_get (trace_of lines) k ≡ o → IsSomeAnd o (IsEventOf (tables_in trace) found.0) → GivesEvent trace k t op
    by None at h = absurd h
    by (Some l) at h = record {
      named = l.event;
      thread = subst (λ n. IsNumber trace.threads n l.event.thread) found.2 h.numbered.thread;
      operation = subst (λ o. IsOperation (tables_in trace) o l.event.kind l.event.operand) op_same h.numbered.operation;
      line = subst (λ line. IsLine line (Ok (Some l.event))) (sym (line_is l at)) (subst (IsLine l.text) (means _ k l at) (IsLine-meaning l.text));
    }
