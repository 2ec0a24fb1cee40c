-- The table has the places of the pairs so far.
use Rattle.std.proofs.Common.{[], take}
use Rattle.shb_format.proofs.Words.{AreKeyed, IsDistinct, bytes_eq, places_after}
use Rattle.shb_format.proofs.places.add_pairs.Given as goal

abbrev pub invariant-loop-pair : goal.invariant-loop-pair
invariant-loop-pair l = record {
  differ : IsDistinct bytes_eq l.locations;
  keyed : AreKeyed l.locations l.table (places_after l.trace [] (take l.pair-index l.pairs));
}
