use Rattle.std.proofs.Common.{◌≡◌, ◌-◌, ◌≤◌, All, flat_map, length, map, take}
use Rattle.shb_write.proofs.Words.{HasText, TraceData, pair_in, piece_text, text_of}
use Rattle.shb_write.proofs.pieces.pieces_of.Given as goal

abbrev pub invariant-loop-start : goal.invariant-loop-start
invariant-loop-start l = record {
  within : l.start ≤ length l.races;
  races : flat_map (λ piece. piece.races.now) l.pieces.items ≡ take l.start l.races;
  pieces : (trace : TraceData) → HasText trace l.before (map pair_in l.races) → All (λ piece. HasText trace piece.before (map pair_in piece.races.now)) l.pieces.items;
  texts : (trace : TraceData) → flat_map (piece_text trace) l.pieces.items ≡ text_of trace l.before (map pair_in (take l.start l.races));
}

abbrev pub decreases-loop-start : goal.decreases-loop-start
decreases-loop-start l = length l.races - l.start
