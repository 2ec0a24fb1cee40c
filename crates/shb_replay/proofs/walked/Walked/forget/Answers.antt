use Rattle.std.proofs.Common.{Some, ap, arith, ◌<◌, ◌∙◌}
use Rattle.shb_replay.proofs.Words.{Join, Write, op_other_at, op_within_at, slice_get-get_or}
use Rattle.shb_replay.proofs.Clearing.{left_join, left_write, left_other}
use Rattle.shb_replay.proofs.walked.Walked.forget.Goals as goal

pub index_mut-requires-in-Join : goal.index_mut-requires-in-Join
index_mut-requires-in-Join c =
    let trace = c.args.linked.now in
    let low : c.in-Join.thread < trace.sizes.threads = op_within_at trace.events.now trace.sizes _ (Join c.in-Join.thread) trace.within (c.op.ensures ∙ ap (λ o. Some o) c.in-Join.is) in
    omega (arith, low, c.requires.left.joined.as_long, c.args.self.now.joined.ok.0)

pub index_mut-requires-in-Write : goal.index_mut-requires-in-Write
index_mut-requires-in-Write c =
    let trace = c.args.linked.now in
    let low : c.in-Write.variable < trace.sizes.variables = op_within_at trace.events.now trace.sizes _ (Write c.in-Write.variable) trace.within (c.op.ensures ∙ ap (λ o. Some o) c.in-Write.is) in
    omega (arith, low, c.requires.left.writes.as_long, c.args.self.now.writes.ok.0)

pub returns-in-Join : goal.returns-in-Join
returns-in-Join c =
    let trace = c.args.linked.now in
    let at = slice_get-get_or c.args.list.now c.args.at 0 c.requires.at in
    let lt = c.requires.in_trace _ at in
    left_join trace.events.now trace.sizes c.args.list.now c.args.at c.args.end _ at lt c.args.self.now c.requires.left c.in-Join.thread (c.op.ensures ∙ ap (λ o. Some o) c.in-Join.is) (op_within_at trace.events.now trace.sizes _ (Join c.in-Join.thread) trace.within (c.op.ensures ∙ ap (λ o. Some o) c.in-Join.is))

pub returns-in-Write : goal.returns-in-Write
returns-in-Write c =
    let trace = c.args.linked.now in
    let at = slice_get-get_or c.args.list.now c.args.at 0 c.requires.at in
    let lt = c.requires.in_trace _ at in
    left_write trace.events.now trace.sizes c.args.list.now c.args.at c.args.end _ at lt c.args.self.now c.requires.left c.in-Write.variable (c.op.ensures ∙ ap (λ o. Some o) c.in-Write.is) (op_within_at trace.events.now trace.sizes _ (Write c.in-Write.variable) trace.within (c.op.ensures ∙ ap (λ o. Some o) c.in-Write.is))

pub returns-in_default : goal.returns-in_default
returns-in_default c =
    let trace = c.args.linked.now in
    let at = slice_get-get_or c.args.list.now c.args.at 0 c.requires.at in
    let lt = c.requires.in_trace _ at in
    left_other trace.events.now trace.sizes c.args.list.now c.args.at c.args.end _ at lt c.args.self.now c.requires.left (λ x. op_other_at trace.events.now _ c.op.result (Write x) c.op.ensures (c.in_default.not-Write x)) (λ u. op_other_at trace.events.now _ c.op.result (Join u) c.op.ensures (c.in_default.not-Join u))
