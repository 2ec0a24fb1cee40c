use Rattle.shb_links.proofs.Words.{Fork, op_known, op_within_at}
use Rattle.std.proofs.Common.{◌<◌, arith}
use Rattle.shb_links.proofs.pass.note_fork.Goals as goal

pub index_mut-requires : goal.index_mut-requires
index_mut-requires c =
    let trace = c.args.disciplined.now in
    let low : c.in-Fork.thread < trace.sizes.threads = op_within_at trace.events.now trace.sizes c.args.e (Fork c.in-Fork.thread) trace.within (op_known trace.events.now c.args.e c.op.result (Fork c.in-Fork.thread) c.op.ensures c.in-Fork.is) in
    omega (arith, low, c.requires.forks.as_long, c.args.forks.now.ok.0)
