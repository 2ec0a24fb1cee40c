-- What a reader holds of the lines that it has read, and the trace that this stands for.
use Rattle.std.specs.Prelude.{◌==◌, ◌≤◌, ℕ, List, [], ◌∷◌, ◌++◌, length, map, drop, Option, None, Some, ◌≡◌, ◌<◌, ◌^◌}
use Rattle.std.specs.List.{AllByRecursion, before_first}
use Rattle.std.specs.Str.Lines.{strip_carriage_return}
use Rattle.shb_lines.specs.declared.fault.Fault.{Fault}
use Rattle.shb_lines.specs.declared.reader.Reader.{Reader}
use Rattle.shb_lines.specs.declared.trace.Parts.{Parts}
use Rattle.shb_lines.specs.text.Numbering.{HasNumbered}
use Rattle.shb_lines.specs.text.Numbers.{events_of}
use Rattle.shb_lines.specs.text.TraceData.{IsTraceOf, IsWellFormed, TraceData}

-- the line that begins at an offset of the text, without the carriage return at its end
abbrev pub line_from : List ℕ → ℕ → List ℕ
line_from text start = strip_carriage_return (before_first (λ b. b == 10) (drop start text))

-- the parts that a reader has noted
abbrev pub parts_in : Reader → Parts
parts_in reader = record { events = reader.events; starts = reader.starts; threads = reader.numbering.threads; locks = reader.numbering.locks; variables = reader.numbering.variables }

-- the trace that these parts stand for over the text
abbrev pub trace_at : List ℕ → Parts → TraceData
trace_at text parts = record {
  events = parts.events;
  lines = map (line_from text) parts.starts.items;
  threads = parts.threads;
  locks = parts.locks;
  variables = parts.variables;
}

-- the trace of what was read so far
abbrev pub trace_in : List ℕ → Reader → TraceData
trace_in text reader = trace_at text (parts_in reader)

-- the names and the trace are those of the lines, which begin within the text
pub record HasRead (text : List ℕ) (reader : Reader) (lines : List (List ℕ)) : Type 0 where
  pub numbered : HasNumbered (events_of lines) reader.numbering
  pub trace_is : IsTraceOf lines (trace_in text reader)
  pub starts : AllByRecursion (λ start. start ≤ length text) reader.starts.items

-- the lines read after a line: with it, where it has no fault
abbrev pub lines_read : List (List ℕ) → Option Fault → List ℕ → List (List ℕ)
lines_read lines None line = lines ++ line ∷ []
lines_read lines (Some fault) line = lines

-- each event has a line, which begins within the text, names can be counted, and the trace is well-formed
pub record AreParts (text : List ℕ) (parts : Parts) : Type 0 where
  pub a_line_each : length parts.starts.items ≡ length parts.events
  pub starts : AllByRecursion (λ start. start ≤ length text) parts.starts.items
  pub threads : length parts.threads < 2 ^ 32
  pub locks : length parts.locks < 2 ^ 32
  pub variables : length parts.variables < 2 ^ 32
  pub well_formed : IsWellFormed (trace_at text parts)
