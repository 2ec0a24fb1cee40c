use Rattle.std.proofs.Common.{◌<◌, arith}
use Rattle.shb_replay.proofs.Words.{Acquire, Read, op_known, op_within_at}
use Rattle.shb_replay.proofs.Origins.{release_found, write_found}
use Rattle.shb_replay.proofs.rules.origin_of.Goals as goal

pub bounds-releases-lock : goal.bounds-releases-lock
bounds-releases-lock c =
    let trace = c.args.linked.now in
    let low : c.in-Acquire.lock < trace.sizes.locks = op_within_at trace.events.now trace.sizes c.args.e (Acquire c.in-Acquire.lock) trace.within (op_known trace.events.now c.args.e c.op.result (Acquire c.in-Acquire.lock) c.op.ensures c.in-Acquire.is) in
    omega (arith, low, c.requires.releases.as_long)

pub bounds-writes-variable : goal.bounds-writes-variable
bounds-writes-variable c =
    let trace = c.args.linked.now in
    let low : c.in-Read.variable < trace.sizes.variables = op_within_at trace.events.now trace.sizes c.args.e (Read c.in-Read.variable) trace.within (op_known trace.events.now c.args.e c.op.result (Read c.in-Read.variable) c.op.ensures c.in-Read.is) in
    omega (arith, low, c.requires.writes.as_long)

pub returns-in-Acquire : goal.returns-in-Acquire
returns-in-Acquire c = release_found c.args.linked.now.events.now c.args.linked.now.sizes c.args.e c.args.linked.now.within c.args.releases.now c.in-Acquire.lock (op_known _ _ _ _ c.op.ensures c.in-Acquire.is) c.requires.releases

pub returns-in-Read : goal.returns-in-Read
returns-in-Read c = write_found c.args.linked.now.events.now c.args.linked.now.sizes c.args.e c.args.linked.now.within c.args.writes.now c.in-Read.variable (op_known _ _ _ _ c.op.ensures c.in-Read.is) c.requires.writes
