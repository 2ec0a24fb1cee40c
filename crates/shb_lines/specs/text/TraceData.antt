-- A trace as the other crates see it, and which trace some lines and some bytes have.
use Rattle.std.specs.Prelude.{◌≡◌, ◌+◌, ◌≤◌, ℕ, List, [], ◌++◌, length, map, take, codes, Option, None, Some, if◌then◌else◌}
use Rattle.std.specs.List.{AllByRecursion, AllZip, IsDistinct, after_first, list_any}
use Rattle.std.specs.Str.{bytes_eq}
use Rattle.shb_lines.specs.declared.event.Event.{Event}
use Rattle.shb_lines.specs.declared.event.Kind.{Kind}
use Rattle.shb_lines.specs.declared.limits.Limits.{Limits}
use Rattle.shb_lines.specs.declared.fault.LineFault.{LineFault}
use Rattle.shb_lines.specs.declared.event.Sizes.{Sizes}
use Rattle.shb_lines.specs.text.Faults.{HasNoLineFaultBefore, IsFirstLineFault}
use Rattle.shb_lines.specs.text.Grammar.{word_of}
use Rattle.shb_lines.specs.text.Limits.{most_events}
use Rattle.shb_lines.specs.text.Meaning.{is_bar}
use Rattle.shb_lines.specs.text.Numbers.{IsEventOf, Tables, events_of, tables_of_events}
use Rattle.shb_lines.specs.events.Sizes.{IsNumberedByAccess, IsWithin}
use Rattle.shb_lines.specs.text.Text.{IsLineText, lines_of, trace_of}

-- the events, the bytes of their lines, and the names that their numbers stand for
pub record TraceData : Type 0 where
  pub events : List Event
  pub lines : List (List ℕ)
  pub threads : List (List ℕ)
  pub locks : List (List ℕ)
  pub variables : List (List ℕ)

abbrev pub tables_in : TraceData → Tables
tables_in trace = record { threads = trace.threads; locks = trace.locks; variables = trace.variables }

-- the trace of some lines: names are numbered in order of first appearance
pub record IsTraceOf (lines : List (List ℕ)) (trace : TraceData) : Type 0 where
  pub tables_are : tables_in trace ≡ tables_of_events (events_of lines)
  pub events_are : AllZip (IsEventOf (tables_in trace)) trace.events (trace_of lines)
  pub lines_are : trace.lines ≡ map (λ e. e.text) (trace_of lines)

-- what holds of the lines before the first fault of a text, and that fault; of all lines where there is none
abbrev pub IsReading : Limits → List ℕ → (List (List ℕ) → Type 0) → Option LineFault → Type 0
IsReading limits text Holds None = HasNoLineFaultBefore limits text (length (lines_of text)) × Holds (lines_of text)
IsReading limits text Holds (Some stop) = (before : ℕ) × (stop.line ≡ before + 1) × IsFirstLineFault limits text before stop.fault × Holds (take before (lines_of text))

-- the trace of the lines before the first fault of a text, and that fault
abbrev pub IsReadingOf : Limits → List ℕ → TraceData → Option LineFault → Type 0
IsReadingOf limits text trace stop = IsReading limits text (λ lines. IsTraceOf lines trace) stop

-- how many threads, locks and variables a trace names
abbrev pub sizes_of : TraceData → Sizes
sizes_of trace = record { threads = length trace.threads; locks = length trace.locks; variables = length trace.variables }

-- what every trace that was read meets: it has few events and a line for each, its lines have few bytes and no line feed, its numbers are those of its names, variables are numbered as they are first accessed, and no name has two numbers
pub record IsWellFormed (trace : TraceData) : Type 0 where
  pub few : length trace.events ≤ most_events
  pub a_line_each : length trace.lines ≡ length trace.events
  pub line_texts : AllByRecursion IsLineText trace.lines
  pub within : IsWithin trace.events (sizes_of trace)
  pub numbered : IsNumberedByAccess trace.events
  pub threads_differ : IsDistinct bytes_eq trace.threads
  pub locks_differ : IsDistinct bytes_eq trace.locks
  pub variables_differ : IsDistinct bytes_eq trace.variables

-- what stands after the second bar of a line, or nothing
abbrev pub location_of : List ℕ → List ℕ
location_of line = after_first is_bar (after_first is_bar line)

-- what stands after the second bar of a line, where it has one
abbrev pub location_after : List ℕ → Option (List ℕ)
location_after line = if list_any is_bar (after_first is_bar line) then Some (location_of line) else None

-- a second bar and the location after it, where there is one
abbrev pub barred : Option (List ℕ) → List ℕ
barred None = []
barred (Some location) = codes "|" ++ location

-- the line `thread|word(name)` of an operation on a name, and `|location` after it where there is one
abbrev pub call_line : List ℕ → Kind → List ℕ → Option (List ℕ) → List ℕ
call_line thread kind name location =
    thread ++ (codes "|" ++ (word_of kind ++ (codes "(" ++ (name ++ (codes ")" ++ barred location)))))
