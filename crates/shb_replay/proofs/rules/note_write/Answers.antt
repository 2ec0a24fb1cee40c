use Rattle.shb_replay.proofs.Words.{Write, op_known, op_within_at}
use Rattle.std.proofs.Common.{◌<◌, arith}
use Rattle.shb_replay.proofs.rules.note_write.Goals as goal

pub index_mut-requires : goal.index_mut-requires
index_mut-requires c =
    let trace = c.args.linked.now in
    let low : c.in-Write.variable < trace.sizes.variables = op_within_at trace.events.now trace.sizes c.args.e (Write c.in-Write.variable) trace.within (op_known trace.events.now c.args.e c.op.result (Write c.in-Write.variable) c.op.ensures c.in-Write.is) in
    omega (arith, low, c.requires.writes.as_long, c.args.writes.now.ok.0)
