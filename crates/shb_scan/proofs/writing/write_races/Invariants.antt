use Rattle.std.specs.Prelude.{All}
use Rattle.std.proofs.Common.{◌≡◌, take}
use Rattle.shb_scan.proofs.Words.{Appends, IsRaceMadeOf, TraceData}
use Rattle.shb_scan.proofs.RaceBlocks.{race_blocks}
use Rattle.shb_scan.proofs.writing.write_races.Given as goal

abbrev pub invariant-loop-k : goal.invariant-loop-k
invariant-loop-k g l = record {
  written : (trace : TraceData) → All (IsRaceMadeOf l.names trace) l.races → Appends (g.S.Sink.taken l.initial.sink) (g.S.Sink.taken l.sink) (race_blocks trace (take l.k l.races));
  counted : g.S.Sink.failure_count l.sink ≡ g.S.Sink.failure_count l.initial.sink;
}
