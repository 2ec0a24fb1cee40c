use Rattle.std.proofs.Common.{◌≡◌, ◌++◌}
use Rattle.shb_format.proofs.Words.{HoldsBack, event_numbers, range_with_len}
use Rattle.shb_format.proofs.writing.held_runs.put_run_numbers.Given as goal

abbrev pub invariant-loop-k : goal.invariant-loop-k
invariant-loop-k g l = record {
  held : HoldsBack (g.S.Sink.taken l.initial.sink) (g.S.Sink.taken l.sink) l.held (l.initial.held ++ event_numbers (range_with_len l.run.first l.k));
  counted : g.S.Sink.failure_count l.sink ≡ g.S.Sink.failure_count l.initial.sink;
}
