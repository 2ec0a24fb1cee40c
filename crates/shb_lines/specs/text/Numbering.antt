-- What is found in a line after some events, where the names are owned.
use Rattle.std.specs.Prelude.{◌≡◌, ◌+◌, ◌<◌, ◌≤◌, ◌^◌, ℕ, List, [], ◌∷◌, ◌++◌, length, slice_get, Option, None, Some, Result, Ok, Err, IfSome, fold}
use Rattle.std.specs.Str.Lines.{strip_carriage_return}
use Rattle.shb_lines.specs.declared.event.Event.{Event}
use Rattle.shb_lines.specs.declared.fault.Fault.{Fault}
use Rattle.shb_lines.specs.declared.limits.Limits.{Limits}
use Rattle.shb_lines.specs.declared.numbering.Numbering.{Numbering}
use Rattle.shb_lines.specs.declared.numbering.Step.{Step}
use Rattle.shb_lines.specs.text.Faults.{HasLineFault, number_of}
use Rattle.shb_lines.specs.text.Reading.{HasBarAt, HasNoBar}
use Rattle.shb_lines.specs.text.Grammar.{NamedEvent}
use Rattle.shb_lines.specs.text.Limits.{most_line}
use Rattle.shb_lines.specs.text.Meaning.{meaning}
use Rattle.shb_lines.specs.text.Numbers.{IsNumber, IsOperation, Tables, tables_of_events}
use Rattle.shb_lines.specs.text.TraceData.{TraceData}
use Rattle.shb_lines.specs.Lowest.{IsLowest}
use Rattle.shb_lines.specs.declared.event.Kind.{Kind}
use Rattle.shb_lines.specs.text.Text.{locks_among, threads_among, variables_among, with_name}

-- a table of names with some more, and all tables with the names of an event
abbrev pub with_names : List (List ℕ) → List (List ℕ) → List (List ℕ)
with_names table names = fold with_name table names

abbrev pub with_thread : Tables → List ℕ → Tables
with_thread tables name = record { threads = with_name tables.threads name; locks = tables.locks; variables = tables.variables }

abbrev pub with_operand : Tables → Kind → List ℕ → Tables
with_operand tables kind name = record {
  threads = with_names tables.threads (threads_among kind name);
  locks = with_names tables.locks (locks_among kind name);
  variables = with_names tables.variables (variables_among kind name);
}

-- the greatest limits of a text that isn't kept: the limit of its bytes says nothing
pub record AreWide (limits : Limits) : Type 0 where
  pub line : limits.line ≤ most_line
  pub events : limits.events + 1 < 2 ^ 32
  pub threads : limits.threads < 2 ^ 16

abbrev pub tables_of : Numbering → Tables
tables_of numbering = record { threads = numbering.threads; locks = numbering.locks; variables = numbering.variables }

-- the numbers of a step are those of the event's names
pub record IsStepOf (tables : Tables) (step : Step) (named : NamedEvent) : Type 0 where
  pub thread : IsNumber tables.threads step.thread named.thread
  pub operation : IsOperation tables step.op named.kind named.operand

-- the event that a step is, on this line
abbrev pub event_of : Step → ℕ → Event
event_of step line = record { thread = step.thread; op = step.op; line = line }

-- the trace with a step more, on a line with this number and text, where names have these tables
abbrev pub with_step : TraceData → Tables → Step → ℕ → List ℕ → TraceData
with_step trace tables step line text = record {
  events = trace.events ++ event_of step line ∷ [];
  lines = trace.lines ++ text ∷ [];
  threads = tables.threads;
  locks = tables.locks;
  variables = tables.variables;
}

-- the names are those of these events
pub record HasNumbered (before : List NamedEvent) (numbering : Numbering) : Type 0 where
  pub tables_are : tables_of numbering ≡ tables_of_events before
  pub count_is : numbering.events ≡ length before

-- the name of the thread of the last event, if there is one, is that of a thread: it has no bar
abbrev pub HasLastThread : Numbering → Type 0
HasLastThread numbering = IfSome (slice_get numbering.threads numbering.last) HasNoBar

-- a line that gives no event changes nothing
abbrev pub IsKept : Numbering → Numbering → Result (Option Step) Fault → Type 0
IsKept old new (Ok (Some step)) = step.thread < length new.threads
IsKept old new _ = new ≡ old

-- where a line gives an event, the place of its second bar is kept
abbrev pub IsBarOf : List ℕ → Numbering → Result (Option Step) Fault → Type 0
IsBarOf line new (Ok (Some step)) = HasBarAt line new.bar
IsBarOf line new _ = Unit {0}

-- there are no more events and threads than the limits, and no more locks and variables than events
pub record IsWithin (limits : Limits) (numbering : Numbering) : Type 0 where
  pub few : numbering.events ≤ limits.events
  pub threads : length numbering.threads ≤ limits.threads
  pub locks : length numbering.locks ≤ numbering.events
  pub variables : length numbering.variables ≤ numbering.events
  pub last : HasLastThread numbering

-- the line has no fault, and what it gives is numbered
pub record GivesStep (limits : Limits) (before : List NamedEvent) (line : List ℕ) (new : Numbering) (step : Step) : Type 0 where
  pub named : NamedEvent
  pub meaning_is : meaning (strip_carriage_return line) ≡ Ok (Some named)
  pub faultless : IsLowest number_of (HasLineFault limits ⊥ before line) None
  pub step_is : IsStepOf (tables_of new) step named
  pub numbered : HasNumbered (before ++ named ∷ []) new

-- the line has no fault, and gives nothing
pub record GivesNothing (limits : Limits) (before : List NamedEvent) (line : List ℕ) (new : Numbering) : Type 0 where
  pub meaning_is : meaning (strip_carriage_return line) ≡ Ok None
  pub faultless : IsLowest number_of (HasLineFault limits ⊥ before line) None
  pub numbered : HasNumbered before new

-- what is found in a line
abbrev pub IsFound : Limits → List NamedEvent → List ℕ → Numbering → Result (Option Step) Fault → Type 0
IsFound limits before line new (Ok (Some step)) = GivesStep limits before line new step
IsFound limits before line new (Ok None) = GivesNothing limits before line new
IsFound limits before line new (Err fault) = IsLowest number_of (HasLineFault limits ⊥ before line) (Some fault)
