use Rattle.std.proofs.Common.{ℕ, List, All, flat_map, take}
use Rattle.shb_lines.specs.declared.event.Event.{Event}
use Rattle.shb_counts.specs.Pieces.{IsPieceOf}
use Rattle.shb_counts.specs.Sums.{IsCounted}
use Rattle.shb_counts.proofs.job.joined_pieces.Given as goal

abbrev pub invariant-loop-piece : goal.invariant-loop-piece
invariant-loop-piece l = (trace : List Event) (numbers : List ℕ) → All (IsPieceOf trace numbers) l.pieces → IsCounted trace numbers (flat_map (λ piece. piece.list) (take l.piece-index l.pieces)) l.counted
