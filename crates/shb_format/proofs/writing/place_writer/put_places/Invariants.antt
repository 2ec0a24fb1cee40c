use Rattle.std.proofs.Common.{◌≡◌, ◌++◌, take}
use Rattle.shb_format.proofs.Words.{HoldsBack, places_bytes}
use Rattle.shb_format.proofs.writing.place_writer.put_places.Given as goal

abbrev pub invariant-loop-k : goal.invariant-loop-k
invariant-loop-k g l = record {
  held : HoldsBack (g.S.Sink.taken l.initial.sink) (g.S.Sink.taken l.sink) l.held (l.initial.held ++ places_bytes l.trace (take l.k l.places));
  counted : g.S.Sink.failure_count l.sink ≡ g.S.Sink.failure_count l.initial.sink;
}
