-- A trace is the list of its events in the order in which they happened. Positions count from 0.
use Rattle.std.specs.Prelude.{ℕ, List, Option, Some, None, slice_get, option_and_then, filter_map}
use Rattle.shb_lines.specs.declared.event.Event.{Event}
use Rattle.shb_lines.specs.declared.event.Op.{Op}
use Rattle.shb_lines.specs.declared.event.Op.TheVariants.{Read, Write}

-- the thread of the event at a position
unfoldable pub thread_at : List Event → ℕ → Option ℕ
thread_at trace k = option_and_then (λ e. Some e.thread) (slice_get trace k)

-- the operation of the event at a position
unfoldable pub op_at : List Event → ℕ → Option Op
op_at trace k = option_and_then (λ e. Some e.op) (slice_get trace k)

-- the variable that an operation reads or writes
abbrev pub variable_of : Op → Option ℕ
variable_of (Read x) = Some x
variable_of (Write x) = Some x
variable_of _ = None

-- the events at these positions
abbrev pub events_at : List Event → List ℕ → List Event
events_at trace positions = filter_map (slice_get trace) positions
