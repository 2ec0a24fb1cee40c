-- The lines of a text, the events that they give, and the names of these, numbered in order of first appearance.
use Rattle.std.specs.Prelude.{◌≡◌, ◌≤◌, ◌==◌, ℕ, true, not, List, [], ◌∷◌, length, Option, None, Some, Ok, fold, if◌then◌else◌}
use Rattle.std.specs.List.{enumerate_from, filter_map, flat_map, list_all, slice_split}
use Rattle.std.specs.Str.Lines.{strip_carriage_return}
use Rattle.shb_lines.specs.declared.event.Kind.{Kind}
use Rattle.shb_lines.specs.declared.event.Kind.TheVariants as kinds
use Rattle.shb_lines.specs.text.Grammar.{Meaning, NamedEvent}
use Rattle.shb_lines.specs.text.Limits.{most_line}
use Rattle.shb_lines.specs.text.Meaning.{meaning}
use Rattle.std.specs.Str.{bytes_eq}

-- the names, and after them one that is new
abbrev pub with_name : List (List ℕ) → List ℕ → List (List ℕ)
with_name [] name = name ∷ []
with_name (known ∷ names) name = if bytes_eq name known then known ∷ names else known ∷ with_name names name

-- the different names among these, in order of first appearance: the index of a name is its number
abbrev pub table_of : List (List ℕ) → List (List ℕ)
table_of names = fold with_name [] names

-- the lines: the parts between line feeds. A last part with no byte gives nothing, as a line does
abbrev pub lines_of : List ℕ → List (List ℕ)
lines_of text = slice_split (λ b. b == 10) text

-- the bytes of a line that gives an event, under any limits: 1 to 4,096, and none of them a line feed
pub record IsLineText (bytes : List ℕ) : Type 0 where
  pub least : 1 ≤ length bytes
  pub most : length bytes ≤ most_line
  pub one_line : list_all (λ b. not (b == 10)) bytes ≡ true

-- an event with the number of its line and the bytes of that line
pub record LocatedEvent : Type 0 where
  pub line : ℕ
  pub text : List ℕ
  pub event : NamedEvent

abbrev pub located : ℕ → List ℕ → Meaning → Option LocatedEvent
located line text (Ok (Some e)) = Some (record { line = line; text = text; event = e })
located line text _ = None

-- the event of a numbered line, if it gives one
abbrev pub event_on : ℕ × List ℕ → Option LocatedEvent
event_on numbered = let text = strip_carriage_return numbered.1 in located numbered.0 text (meaning text)

-- the trace of some lines: their events in order
abbrev pub trace_of : List (List ℕ) → List LocatedEvent
trace_of lines = filter_map event_on (enumerate_from 1 lines)

-- the names that an operand is, in each name space
abbrev pub threads_among : Kind → List ℕ → List (List ℕ)
threads_among kinds.Fork name = name ∷ []
threads_among kinds.Join name = name ∷ []
threads_among _ name = []

abbrev pub locks_among : Kind → List ℕ → List (List ℕ)
locks_among kinds.Acquire name = name ∷ []
locks_among kinds.Release name = name ∷ []
locks_among _ name = []

abbrev pub variables_among : Kind → List ℕ → List (List ℕ)
variables_among kinds.Read name = name ∷ []
variables_among kinds.Write name = name ∷ []
variables_among _ name = []

-- the different threads, locks and variables of some events, in order of first appearance; a line's own thread comes before its operand
abbrev pub threads_of : List NamedEvent → List (List ℕ)
threads_of events = table_of (flat_map (λ e. e.thread ∷ threads_among e.kind e.operand) events)

abbrev pub locks_of : List NamedEvent → List (List ℕ)
locks_of events = table_of (flat_map (λ e. locks_among e.kind e.operand) events)

abbrev pub variables_of : List NamedEvent → List (List ℕ)
variables_of events = table_of (flat_map (λ e. variables_among e.kind e.operand) events)
