use Rattle.shb_stamps.proofs.RowLemmas.{below_piece}
use Rattle.shb_stamps.proofs.row.Row.is_below.Goals as goal

pub loop-k-preserved : goal.loop-k-preserved
loop-k-preserved c = below_piece c.args.self.now c.args.other.now c.piece.result.now c.piece-in-loop-k.result.now c.loop-k.k c.loop-k.invariant c.piece.ensures c.piece-in-loop-k.ensures (c.is_below-below.ensures c.if-not-below.false)
