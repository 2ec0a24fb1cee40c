-- The numbers of names in events.
use Rattle.std.specs.Prelude.{◌≡◌, ℕ, List, map, slice_get, Some}
use Rattle.shb_lines.specs.declared.event.Event.{Event}
use Rattle.shb_lines.specs.declared.event.Kind.{Kind}
use Rattle.shb_lines.specs.declared.event.Kind.TheVariants as kinds
use Rattle.shb_lines.specs.declared.event.Op.{Op}
use Rattle.shb_lines.specs.declared.event.Op.TheVariants as ops
use Rattle.shb_lines.specs.text.Grammar.{NamedEvent}
use Rattle.shb_lines.specs.text.Text.{LocatedEvent, locks_of, threads_of, trace_of, variables_of}

-- the names of the three name spaces, in order of first appearance
pub record Tables : Type 0 where
  pub threads : List (List ℕ)
  pub locks : List (List ℕ)
  pub variables : List (List ℕ)

abbrev pub events_of : List (List ℕ) → List NamedEvent
events_of lines = map (λ e. e.event) (trace_of lines)

-- the names of some events
abbrev pub tables_of_events : List NamedEvent → Tables
tables_of_events events = record { threads = threads_of events; locks = locks_of events; variables = variables_of events }

-- the number is that of the name
abbrev pub IsNumber : List (List ℕ) → ℕ → List ℕ → Type 0
IsNumber table number name = slice_get table number ≡ Some name

-- the operation is of this kind, and its number is that of the name
abbrev pub IsOperation : Tables → Op → Kind → List ℕ → Type 0
IsOperation tables (ops.Read number) kind name = (kind ≡ kinds.Read) × IsNumber tables.variables number name
IsOperation tables (ops.Write number) kind name = (kind ≡ kinds.Write) × IsNumber tables.variables number name
IsOperation tables (ops.Acquire number) kind name = (kind ≡ kinds.Acquire) × IsNumber tables.locks number name
IsOperation tables (ops.Release number) kind name = (kind ≡ kinds.Release) × IsNumber tables.locks number name
IsOperation tables (ops.Fork number) kind name = (kind ≡ kinds.Fork) × IsNumber tables.threads number name
IsOperation tables (ops.Join number) kind name = (kind ≡ kinds.Join) × IsNumber tables.threads number name
IsOperation tables ops.BeginMark kind name = kind ≡ kinds.BeginMark
IsOperation tables ops.EndMark kind name = kind ≡ kinds.EndMark

-- the operation of this kind with this number, which a mark lacks
abbrev pub op_for : Kind → ℕ → Op
op_for kinds.Read number = ops.Read number
op_for kinds.Write number = ops.Write number
op_for kinds.Acquire number = ops.Acquire number
op_for kinds.Release number = ops.Release number
op_for kinds.Fork number = ops.Fork number
op_for kinds.Join number = ops.Join number
op_for kinds.BeginMark number = ops.BeginMark
op_for kinds.EndMark number = ops.EndMark

-- the numbers of an event are those of its names
pub record IsNumbered (tables : Tables) (event : Event) (named : NamedEvent) : Type 0 where
  pub thread : IsNumber tables.threads event.thread named.thread
  pub operation : IsOperation tables event.op named.kind named.operand

-- the event's numbers are those of its names, and it has the number of its line
pub record IsEventOf (tables : Tables) (event : Event) (located : LocatedEvent) : Type 0 where
  pub numbered : IsNumbered tables event located.event
  pub line_is : event.line ≡ located.line
