-- What the parts of a trace stand for, where a reader has read the text's lines.
use Rattle.std.proofs.Common.{◌≡◌, ◌≤◌, ℕ, suc, List, [], ◌∷◌, ◌++◌, ◌+◌, length, map, Option, None, Some, Ok, refl, sym, ap, subst, ◌∙◌, arith}
use Rattle.std.specs.List.{AllByRecursion, AllZip}
use Rattle.std.specs.Str.Lines.{strip_carriage_return}
use Rattle.std.proofs.lemmas.List.{length-map, map-append}
use Rattle.shb_lines.specs.declared.limits.Limits.{Limits}
use Rattle.shb_lines.specs.declared.fault.LineFault.{LineFault}
use Rattle.shb_lines.specs.declared.numbering.Numbering.{Numbering}
use Rattle.shb_lines.specs.declared.numbering.Step.{Step}
use Rattle.shb_lines.specs.declared.reader.Reader.{Reader}
use Rattle.shb_lines.specs.declared.trace.Parts.{Parts}
use Rattle.shb_lines.specs.text.Limits.{AreStandard, most_events}
use Rattle.shb_lines.specs.text.Meaning.{meaning}
use Rattle.shb_lines.specs.text.Numbering.{GivesStep, HasNumbered, IsWithin, event_of, tables_of, with_step}
use Rattle.shb_lines.specs.text.Numbers.{IsEventOf, events_of}
use Rattle.shb_lines.specs.text.Parsed.{AreParts, HasRead, line_from, parts_in, trace_in}
use Rattle.shb_lines.specs.text.Text.{IsLineText, LocatedEvent, trace_of}
use Rattle.shb_lines.specs.text.TraceData.{IsReading, IsTraceOf, TraceData, tables_in}
use Rattle.shb_lines.proofs.text.Numbers.{well_formed}
use Rattle.shb_lines.proofs.text.TraceLemmas.{trace_of-none, trace_of-some}
use Rattle.shb_lines.proofs.text.TraceMore.{step_more, step_none}

pub IsReading-to : (limits : Limits) (text : List ℕ) (Holds Other : List (List ℕ) → Type 0) → ((lines : List (List ℕ)) → Holds lines → Other lines) → (stop : Option LineFault) → IsReading limits text Holds stop → IsReading limits text Other stop
IsReading-to limits text Holds Other to None h = (h.0, to _ h.1)
IsReading-to limits text Holds Other to (Some stop) h = (h.0, h.1, h.2, to _ h.3)

length_zip : {A B : Type 0} (R : A → B → Type 0) (xs : List A) (ys : List B) → AllZip R xs ys → length ys ≡ length xs
length_zip R [] [] h = refl
length_zip R [] (y ∷ ys) h = absurd h
length_zip R (x ∷ xs) [] h = absurd h
length_zip R (x ∷ xs) (y ∷ ys) h = ap (λ n. suc n) (length_zip R xs ys h.1)

-- a reader has noted as many events as the lines give, and a start of a line for each
pub length-events : (lines : List (List ℕ)) (trace : TraceData) → IsTraceOf lines trace → length (trace_of lines) ≡ length trace.events
length-events lines trace h = length_zip (IsEventOf (tables_in trace)) trace.events (trace_of lines) h.events_are

length-starts : (text : List ℕ) (reader : Reader) (lines : List (List ℕ)) → HasRead text reader lines → length reader.starts.items ≡ length reader.events
length-starts text reader lines h =
    sym (length-map reader.starts.items (line_from text)) ∙ ap length h.trace_is.lines_are ∙ length-map (trace_of lines) (λ e. e.text) ∙ length-events lines (trace_in text reader) h.trace_is

-- what a reader has noted of some lines are parts of a trace
pub parts_held : (text : List ℕ) (reader : Reader) (lines : List (List ℕ)) → HasRead text reader lines → (limits : Limits) → AreStandard limits → IsWithin limits reader.numbering
    → AllByRecursion IsLineText (map (λ e. e.text) (trace_of lines)) → AreParts text (parts_in reader)
parts_held text reader lines read limits standard within line_texts =
    let count : length reader.events ≡ reader.numbering.events = sym (length-events lines (trace_in text reader) read.trace_is) ∙ sym (length-map (trace_of lines) (λ e. e.event)) ∙ sym read.numbered.count_is in
    let few : length reader.events ≤ most_events = omega (arith, count, within.few, standard.events) in
    record {
      a_line_each = length-starts text reader lines read;
      starts = read.starts;
      threads = omega (arith, within.threads, standard.threads);
      locks = omega (arith, within.locks, count, few);
      variables = omega (arith, within.variables, count, few);
      well_formed = well_formed lines (trace_in text reader) read.trace_is few (length-map reader.starts.items (line_from text) ∙ length-starts text reader lines read) line_texts;
    }

-- a line that gives nothing changes nothing
pub read_none : (text : List ℕ) (old : Reader) (numbering : Numbering) (lines : List (List ℕ)) (line : List ℕ) → meaning (strip_carriage_return line) ≡ Ok None → numbering ≡ old.numbering
    → HasRead text old lines → HasRead text (record { events = old.events; starts = old.starts; numbering = numbering }) (lines ++ line ∷ [])
read_none text old numbering lines line none same h =
    let trace = trace_of-none lines line none in
    subst (λ (n : Numbering). HasRead text (record { events = old.events; starts = old.starts; numbering = n }) (lines ++ line ∷ [])) (sym same) (record {
      numbered = subst (λ (t : List LocatedEvent). HasNumbered (map (λ e. e.event) t) old.numbering) (sym trace) h.numbered;
      trace_is = step_none lines (lines ++ line ∷ []) (trace_in text old) trace h.trace_is;
      starts = h.starts;
    })

all_more : (n : ℕ) (starts : List ℕ) (start : ℕ) → AllByRecursion (λ s. s ≤ n) starts → start ≤ n → AllByRecursion (λ s. s ≤ n) (starts ++ start ∷ [])
all_more n [] start all here = (here, tt)
all_more n (first ∷ starts) start all here = (all.0, all_more n starts start all.1 here)

-- a line that gives an event adds it, its names and its start
pub read_some : (text : List ℕ) (old new : Reader) (lines : List (List ℕ)) (line : List ℕ) (start : ℕ) (step : Step) (limits : Limits) (found : GivesStep limits (events_of lines) line new.numbering step)
    → new.events ≡ old.events ++ event_of step (1 + length lines) ∷ [] → new.starts.items ≡ old.starts.items ++ start ∷ [] → line_from text start ≡ strip_carriage_return line → start ≤ length text
    → HasRead text old lines → HasRead text new (lines ++ line ∷ [])
read_some text old new lines line start step limits found events_are starts_are line_is within h =
    let trace_more = trace_of-some lines line found.named found.meaning_is in
    let events : events_of (lines ++ line ∷ []) ≡ events_of lines ++ found.named ∷ [] = ap (map (λ (e : LocatedEvent). e.event)) trace_more ∙ map-append (λ (e : LocatedEvent). e.event) (trace_of lines) _ in
    let numbered : HasNumbered (events_of (lines ++ line ∷ [])) new.numbering = subst (λ es. HasNumbered es new.numbering) (sym events) found.numbered in
    let lines_are : map (line_from text) new.starts.items ≡ map (line_from text) old.starts.items ++ strip_carriage_return line ∷ [] =
    ap (map (line_from text)) starts_are ∙ map-append (line_from text) old.starts.items (start ∷ []) ∙ ap (λ l. map (line_from text) old.starts.items ++ l ∷ []) line_is in
    let longer : with_step (trace_in text old) (tables_of new.numbering) step (1 + length lines) (strip_carriage_return line) ≡ trace_in text new = λ i. record {
      events = sym events_are i;
      lines = sym lines_are i;
      threads = new.numbering.threads;
      locks = new.numbering.locks;
      variables = new.numbering.variables;
    } in
    record {
      numbered = numbered;
      trace_is = subst (IsTraceOf (lines ++ line ∷ [])) longer (step_more lines line (trace_in text old) (tables_of new.numbering) step found.named h.trace_is events numbered.tables_are found.step_is);
      starts = subst (AllByRecursion (λ (s : ℕ). s ≤ length text)) (sym starts_are) (all_more (length text) old.starts.items start h.starts within);
    }
