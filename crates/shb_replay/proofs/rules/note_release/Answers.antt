use Rattle.shb_replay.proofs.Words.{Release, op_known, op_within_at}
use Rattle.std.proofs.Common.{◌<◌, arith}
use Rattle.shb_replay.proofs.rules.note_release.Goals as goal

pub index_mut-requires : goal.index_mut-requires
index_mut-requires c =
    let trace = c.args.linked.now in
    let low : c.in-Release.lock < trace.sizes.locks = op_within_at trace.events.now trace.sizes c.args.e (Release c.in-Release.lock) trace.within (op_known trace.events.now c.args.e c.op.result (Release c.in-Release.lock) c.op.ensures c.in-Release.is) in
    omega (arith, low, c.requires.releases.as_long, c.args.releases.now.ok.0)
