-- What a settled trace is of, in one word each.
use Rattle.std.specs.Prelude.{ℕ, List}
use Rattle.shb_lines.specs.declared.event.Event.{Event}
use Rattle.shb_lines.specs.text.TraceData.{TraceData}
use Rattle.shb_counts.specs.declared.settled.Settled.{Settled}

-- its trace
abbrev pub trace_of : Settled → TraceData
trace_of settled = settled.disciplined.now.trace.now

-- its events
abbrev pub events_of : Settled → List Event
events_of settled = settled.disciplined.now.events.now

-- how many variables it has
abbrev pub variables_of : Settled → ℕ
variables_of settled = settled.disciplined.now.sizes.variables
