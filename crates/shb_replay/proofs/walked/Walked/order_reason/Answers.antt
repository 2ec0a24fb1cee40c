use Rattle.std.proofs.Common.{Some, None, length, arith, slice_index_or}
use Rattle.shb_replay.proofs.Words.{HasReason, IsLowestIn, IsPred, StandsEarlier, slice_get-get_or, slice_get_read}
use Rattle.shb_replay.specs.declared.broken.Why.TheVariants as whys
use Rattle.shb_replay.proofs.OrderReasons.{at_index, flag_false, flag_true, link_is, link_none, order_fork, order_none, order_standing, order_thread, pred_in_trace, threads_differ, threads_same}
use Rattle.shb_replay.proofs.walked.Walked.order_reason.Goals as goal

pub returns-in_default : goal.returns-in_default
returns-in_default c =
    let trace = c.args.rules.now.linked in
    let x = slice_index_or c.args.list.now c.args.at 0 in
    at_index (λ e. IsLowestIn 3 4 (HasReason trace.events.now c.args.list.now c.args.at e) None) c.args.list.now c.args.at
    (order_none trace.events.now trace.meets c.args.list.now c.args.at x (λ a pred. absurd (link_none (λ b. IsPred trace.events.now b x) c.pred.result c.pred.ensures c.in_default.is a pred)))

pub index-requires : goal.index-requires
index-requires c =
    let trace = c.args.rules.now.linked in
    let x = slice_index_or c.args.list.now c.args.at 0 in
    let pred = link_is (λ b. IsPred trace.events.now b x) c.pred.result c.in-Some.p c.pred.ensures c.in-Some.is in
    let low = pred_in_trace trace.events.now c.in-Some.p x pred in
    let long = c.requires.walked.stands.as_long in
    let len = c.args.self.now.stands.ok.0 in
    omega (arith, low, long, len)

pub returns-then-index : goal.returns-then-index
returns-then-index c =
    let trace = c.args.rules.now.linked in
    let stands = c.args.self.now.stands in
    let x = slice_index_or c.args.list.now c.args.at 0 in
    let pred = link_is (λ b. IsPred trace.events.now b x) c.pred.result c.in-Some.p c.pred.ensures c.in-Some.is in
    let low = pred_in_trace trace.events.now c.in-Some.p x pred in
    let long = c.requires.walked.stands.as_long in
    let flag = slice_get_read stands.items stands.len c.in-Some.p c.index.result.now stands.ok.0 (let len = stands.ok.0 in omega (arith, low, long, len)) c.index.ensures in
    at_index (λ e. IsLowestIn 3 4 (HasReason trace.events.now c.args.list.now c.args.at e) None) c.args.list.now c.args.at
    (order_standing trace.events.now trace.meets c.args.list.now c.args.at x c.in-Some.p pred (flag_true (StandsEarlier c.args.list.now c.args.at) (length trace.events.now) c.in-Some.p stands.items c.index.result.now c.requires.walked.stands flag c.if-index.true))

pub thread-requires : goal.thread-requires
thread-requires c =
    let x = slice_index_or c.args.list.now c.args.at 0 in
    pred_in_trace c.args.rules.now.linked.events.now c.in-Some.p x (link_is (λ b. IsPred c.args.rules.now.linked.events.now b x) c.pred.result c.in-Some.p c.pred.ensures c.in-Some.is)

pub thread-requires-2 : goal.thread-requires-2
thread-requires-2 c = c.requires.in_trace _ (slice_get-get_or c.args.list.now c.args.at 0 c.requires.at)

pub returns-then-thread : goal.returns-then-thread
returns-then-thread c =
    let trace = c.args.rules.now.linked in
    let stands = c.args.self.now.stands in
    let x = slice_index_or c.args.list.now c.args.at 0 in
    let pred = link_is (λ b. IsPred trace.events.now b x) c.pred.result c.in-Some.p c.pred.ensures c.in-Some.is in
    let low = pred_in_trace trace.events.now c.in-Some.p x pred in
    let long = c.requires.walked.stands.as_long in
    let flag = slice_get_read stands.items stands.len c.in-Some.p c.index.result.now stands.ok.0 (let len = stands.ok.0 in omega (arith, low, long, len)) c.index.ensures in
    at_index (λ e. IsLowestIn 3 4 (HasReason trace.events.now c.args.list.now c.args.at e) (Some whys.ThreadOrder)) c.args.list.now c.args.at
    (order_thread trace.events.now trace.meets c.args.list.now c.args.at x c.in-Some.p pred (flag_false (StandsEarlier c.args.list.now c.args.at) (length trace.events.now) c.in-Some.p stands.items c.index.result.now c.requires.walked.stands flag c.if-index.false) (threads_same trace.events.now c.in-Some.p x _ _ c.thread.ensures c.thread-2.ensures c.if-thread.true))

pub returns-else-thread : goal.returns-else-thread
returns-else-thread c =
    let trace = c.args.rules.now.linked in
    let stands = c.args.self.now.stands in
    let x = slice_index_or c.args.list.now c.args.at 0 in
    let pred = link_is (λ b. IsPred trace.events.now b x) c.pred.result c.in-Some.p c.pred.ensures c.in-Some.is in
    let low = pred_in_trace trace.events.now c.in-Some.p x pred in
    let long = c.requires.walked.stands.as_long in
    let flag = slice_get_read stands.items stands.len c.in-Some.p c.index.result.now stands.ok.0 (let len = stands.ok.0 in omega (arith, low, long, len)) c.index.ensures in
    at_index (λ e. IsLowestIn 3 4 (HasReason trace.events.now c.args.list.now c.args.at e) (Some whys.ForkMissing)) c.args.list.now c.args.at
    (order_fork trace.events.now trace.meets c.args.list.now c.args.at x c.in-Some.p pred (flag_false (StandsEarlier c.args.list.now c.args.at) (length trace.events.now) c.in-Some.p stands.items c.index.result.now c.requires.walked.stands flag c.if-index.false) (threads_differ trace.events.now c.in-Some.p x _ _ c.thread.ensures c.thread-2.ensures c.if-thread.false))
