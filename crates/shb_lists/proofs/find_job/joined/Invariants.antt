use Rattle.std.proofs.Common.{◌≡◌, flat_map, map, take}
use Rattle.shb_lists.specs.Listed.{pair_in}
use Rattle.shb_lists.proofs.find_job.joined.Given as goal

abbrev pub invariant-loop-piece : goal.invariant-loop-piece
invariant-loop-piece l = map pair_in l.races.items ≡ flat_map (λ piece. map pair_in piece.items) (take l.piece-index l.pieces)
