use Rattle.shb_stamps.proofs.ChunkLemmas.{HasPart}
use Rattle.shb_stamps.proofs.row_list.add_cells.Given as goal

abbrev pub invariant-loop-k : goal.invariant-loop-k
invariant-loop-k l = HasPart l.fn.chunks.items l.fn.cells.items l.row l.chunks.items l.cells.items l.k
