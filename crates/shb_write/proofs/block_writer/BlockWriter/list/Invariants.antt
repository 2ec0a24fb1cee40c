use Rattle.std.proofs.Common.{map, take}
use Rattle.shb_write.proofs.Words.{HasWritten, alone, ends}
use Rattle.shb_write.proofs.block_writer.BlockWriter.list.Given as goal

abbrev pub invariant-loop-pair : goal.invariant-loop-pair
invariant-loop-pair g l = HasWritten g.K.Sink.taken g.K.Sink.failure_count l.initial.self (map alone (map ends (take l.pair-index l.pairs))) l.self
