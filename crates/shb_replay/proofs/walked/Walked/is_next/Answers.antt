use Rattle.std.proofs.Common.{length, arith}
use Rattle.shb_replay.proofs.Words.{StandsEarlier, slice_get_read}
use Rattle.shb_replay.proofs.OrderReasons.{flag_false, flag_true, next_tells, preds_in_trace, standing_not_next}
use Rattle.shb_replay.proofs.walked.Walked.is_next.Goals as goal

pub returns-then-index : goal.returns-then-index
returns-then-index c =
    let trace = c.args.rules.now.linked in
    let stands = c.args.self.now.stands in
    let long = c.requires.walked.stands.as_long in
    let lt = c.requires.in_trace in
    let flag = slice_get_read stands.items stands.len c.args.e c.index.result.now stands.ok.0 (let len = stands.ok.0 in omega (arith, lt, long, len)) c.index.ensures in
    standing_not_next trace.events.now trace.meets c.args.list.now c.requires.unbroken c.args.e (flag_true (StandsEarlier c.args.list.now (length c.args.list.now)) (length trace.events.now) c.args.e stands.items c.index.result.now c.requires.walked.stands flag c.if-index.true)

pub lacks-requires : goal.lacks-requires
lacks-requires c =
    let long = c.requires.walked.stands.as_long in
    preds_in_trace c.args.rules.now.linked.events.now c.args.e c.pred.result c.args.self.now.stands.len c.pred.ensures (let len = c.args.self.now.stands.ok.0 in omega (arith, long, len))

pub returns : goal.returns
returns c =
    let trace = c.args.rules.now.linked in
    let stands = c.args.self.now.stands in
    let long = c.requires.walked.stands.as_long in
    let lt = c.requires.in_trace in
    let flag = slice_get_read stands.items stands.len c.args.e c.index.result.now stands.ok.0 (let len = stands.ok.0 in omega (arith, lt, long, len)) c.index.ensures in
    next_tells trace.events.now trace.meets c.args.list.now c.requires.unbroken c.args.e c.pred.result c.lacks.result c.pred.ensures (flag_false (StandsEarlier c.args.list.now (length c.args.list.now)) (length trace.events.now) c.args.e stands.items c.index.result.now c.requires.walked.stands flag c.if-index.false) (c.lacks.ensures c.args.list.now (length c.args.list.now) (length trace.events.now) c.requires.walked.stands)
