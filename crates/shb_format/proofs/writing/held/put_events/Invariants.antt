use Rattle.std.proofs.Common.{◌≡◌, ◌++◌, take}
use Rattle.shb_format.proofs.Words.{HoldsBack, event_numbers}
use Rattle.shb_format.proofs.writing.held.put_events.Given as goal

abbrev pub invariant-loop-event : goal.invariant-loop-event
invariant-loop-event g l = record {
  held : HoldsBack (g.S.Sink.taken l.initial.sink) (g.S.Sink.taken l.sink) l.held (l.initial.held ++ event_numbers (take l.event-index l.events));
  counted : g.S.Sink.failure_count l.sink ≡ g.S.Sink.failure_count l.initial.sink;
}
