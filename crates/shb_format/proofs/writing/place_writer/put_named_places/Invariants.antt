use Rattle.std.proofs.Common.{◌≡◌, ◌++◌, List, take}
use Rattle.shb_format.proofs.Words.{AreKeyed, HoldsBack, Pair, TraceData, counts_in, places_bytes, places_of_pairs}
use Rattle.shb_format.proofs.writing.place_writer.put_named_places.Given as goal

abbrev pub invariant-loop-q : goal.invariant-loop-q
invariant-loop-q g l = record {
  held : (trace : TraceData) (pairs : List Pair) → AreKeyed l.locations l.places (places_of_pairs trace pairs)
      → HoldsBack (g.S.Sink.taken l.initial.sink) (g.S.Sink.taken l.sink) l.held (l.initial.held ++ places_bytes trace (take l.q (counts_in (places_of_pairs trace pairs))));
  counted : g.S.Sink.failure_count l.sink ≡ g.S.Sink.failure_count l.initial.sink;
}
