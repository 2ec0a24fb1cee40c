use Rattle.shb_counts.proofs.JobLemmas.{all_pieces, next_piece}
use Rattle.shb_counts.proofs.job.joined_pieces.Goals as goal

pub loop-piece-init : goal.loop-piece-init
loop-piece-init c trace numbers own = c.new-counted.ensures trace numbers

pub loop-piece-preserved : goal.loop-piece-preserved
loop-piece-preserved c trace numbers own =
    next_piece trace numbers c.args.pieces.now c.loop-piece.piece-index c.piece-item.result c.piece-item.is c.loop-piece-test.true own c.counted.result.now c.add.new.self c.counted.ensures.counted
    c.loop-piece.counted (λ list rest first second. c.in_ok-add.ensures trace numbers list rest first second) (c.loop-piece.invariant trace numbers own)

pub returns : goal.returns
returns c trace numbers own = all_pieces trace numbers c.args.pieces.now c.loop-piece.piece-index c.loop-piece.counted c.loop-piece-test.false (c.loop-piece.invariant trace numbers own)
