use Rattle.std.proofs.Common.{◌≡◌, ◌++◌, take}
use Rattle.shb_format.proofs.Words.{HoldsBack, event_numbers, positions_in}
use Rattle.shb_format.proofs.writing.held_runs.put_runs.Given as goal

abbrev pub invariant-loop-run : goal.invariant-loop-run
invariant-loop-run g l = record {
  held : HoldsBack (g.S.Sink.taken l.initial.sink) (g.S.Sink.taken l.sink) l.held (l.initial.held ++ event_numbers (positions_in (take l.run-index l.runs)));
  counted : g.S.Sink.failure_count l.sink ≡ g.S.Sink.failure_count l.initial.sink;
}
