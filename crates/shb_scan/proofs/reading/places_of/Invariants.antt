use Rattle.std.specs.Prelude.{All}
use Rattle.shb_scan.proofs.Words.{AreKeyed, IsDistinct, IsRaceLocated, TraceData, bytes_eq, places_after}
use Rattle.std.proofs.Common.{ℕ, List, [], take}
use Rattle.shb_scan.proofs.CountedPlaces.{AreFew, pairs_of}
use Rattle.shb_scan.proofs.reading.places_of.Given as goal

abbrev pub invariant-loop-race : goal.invariant-loop-race
invariant-loop-race g l = record {
  few : AreFew l.race-index l.places;
  keyed : (trace : TraceData) (locations : List (List ℕ)) → IsDistinct bytes_eq locations → All (IsRaceLocated locations trace) l.races
      → AreKeyed locations l.places (places_after trace [] (take l.race-index (pairs_of l.races)));
}
