use Rattle.std.proofs.Common.{refl}
use Rattle.shb_write.proofs.Blocks.{alone_more, alone_split, on_err, one_stopped, one_written, stopped_then, written_then}
use Rattle.shb_write.proofs.block_writer.BlockWriter.list.Goals as goal

pub returns-in_err-block-clause-failed : goal.returns-in_err-block-clause-failed
returns-in_err-block-clause-failed g c =
    on_err c.from_residual.result _
    (stopped_then g.K.Sink.taken g.K.Sink.failure_count c.args.self.now c.loop-pair.self _ _ _ _ _ _ (alone_split c.args.pairs.now c.loop-pair.pair-index _ c.loop-pair-test.true) c.loop-pair.invariant
    (one_stopped g.K.Sink.taken g.K.Sink.failure_count c.loop-pair.self _ _ refl c.in_err-block.ensures.written c.in_err-block.ensures.counted))

pub loop-pair-preserved : goal.loop-pair-preserved
loop-pair-preserved g c =
    written_then g.K.Sink.taken g.K.Sink.failure_count c.args.self.now c.loop-pair.self _ _ _ _ (alone_more c.args.pairs.now c.loop-pair.pair-index _ c.loop-pair-test.true) c.loop-pair.invariant
    (one_written g.K.Sink.taken g.K.Sink.failure_count c.loop-pair.self _ _ refl refl refl c.in_ok-block.ensures.written c.in_ok-block.ensures.counted)
