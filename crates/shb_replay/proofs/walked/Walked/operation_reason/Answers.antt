use Rattle.shb_replay.proofs.Words.{Event, Fork, HasReason, IsLowestIn, Latest, OfThread, Read, common_steps, op_within_at, slice_get-get_or, slice_get_read, then_some, write_link}
use Rattle.std.proofs.Common.{◌<◌, List, Some, None, length, arith, slice_index_or, ap, subst, ◌∙◌}
use Rattle.shb_replay.specs.declared.broken.Why.TheVariants as whys
use Rattle.shb_replay.proofs.OrderReasons.{at_index}
use Rattle.shb_replay.proofs.OperationReasons.{fork_told, handover_in_trace, join_told, lock_told, options_differ, options_same, other_operation, read_no_reason, read_reason, write_is}
use Rattle.shb_replay.proofs.walked.Walked.operation_reason.Goals as goal

pub index-requires : goal.index-requires
index-requires c =
    let trace = c.args.rules.now.linked in
    let low : c.in-Fork.thread < trace.sizes.threads = op_within_at trace.events.now trace.sizes _ (Fork c.in-Fork.thread) trace.within (c.op.ensures ∙ ap (λ o. Some o) c.in-Fork.is) in
    omega (arith, low, c.requires.walked.joined.as_long, c.args.self.now.joined.ok.0)

pub lacks-requires : goal.lacks-requires
lacks-requires c = grind (arith, common_steps, slice_index_or, c.requires.in_trace, slice_get-get_or, c.requires.at, c.op.ensures, c.in-Acquire.is, c.requires.walked.stands.as_long, handover_in_trace, c.origin.ensures.releases)

pub index-requires-in-Read : goal.index-requires-in-Read
index-requires-in-Read c =
    let trace = c.args.rules.now.linked in
    let lt = c.requires.in_trace _ (slice_get-get_or c.args.list.now c.args.at 0 c.requires.at) in
    let low : c.in-Read.variable < trace.sizes.variables = op_within_at trace.events.now trace.sizes _ (Read c.in-Read.variable) trace.within (c.op.ensures ∙ ap (λ o. Some o) c.in-Read.is) in
    let long = c.requires.walked.writes.as_long in
    let len = c.args.self.now.writes.ok.0 in
    omega (arith, low, long, len)

pub returns-in-Join : goal.returns-in-Join
returns-in-Join c =
    let trace = c.args.rules.now.linked in
    let s = c.args.list.now in
    let p = c.args.at in
    let latest = subst (λ (tr : List Event). Latest (OfThread tr c.in-Join.thread) (length tr) c.last_of.result) trace.of_links c.last_of.ensures in
    rw c.then_some.ensures (at_index (λ e. IsLowestIn 5 8 (HasReason trace.events.now s p e) (then_some c.lacks-lacks.result whys.JoinEarly)) s p
    (join_told trace.events.now trace.meets s p c.requires.unbroken (slice_index_or s p 0) c.in-Join.thread c.last_of.result c.lacks-lacks.result (c.op.ensures ∙ ap (λ o. Some o) c.in-Join.is) latest (c.lacks-lacks.ensures s p (length trace.events.now) c.requires.walked.stands)))

pub returns-in-Fork : goal.returns-in-Fork
returns-in-Fork c =
    let trace = c.args.rules.now.linked in
    let joined = c.args.self.now.joined in
    let s = c.args.list.now in
    let p = c.args.at in
    let within : c.in-Fork.thread < trace.sizes.threads = op_within_at trace.events.now trace.sizes _ (Fork c.in-Fork.thread) trace.within (c.op.ensures ∙ ap (λ o. Some o) c.in-Fork.is) in
    let long = c.requires.walked.joined.as_long in
    let flag = slice_get_read joined.items joined.len c.in-Fork.thread c.index.result.now joined.ok.0 (let len = joined.ok.0 in omega (arith, within, long, len)) c.index.ensures in
    rw c.then_some-in-Fork.ensures (at_index (λ e. IsLowestIn 5 8 (HasReason trace.events.now s p e) (then_some c.index.result.now whys.JoinEarly)) s p
    (fork_told trace.events.now trace.meets s p c.requires.unbroken (slice_index_or s p 0) c.in-Fork.thread c.index.result.now (c.op.ensures ∙ ap (λ o. Some o) c.in-Fork.is) (c.requires.walked.joined.each c.in-Fork.thread c.index.result.now flag)))

pub returns-in-Acquire : goal.returns-in-Acquire
returns-in-Acquire c =
    let trace = c.args.rules.now.linked in
    let s = c.args.list.now in
    let p = c.args.at in
    let takes = c.op.ensures ∙ ap (λ o. Some o) c.in-Acquire.is in
    rw c.then_some-in-Acquire.ensures (at_index (λ e. IsLowestIn 5 8 (HasReason trace.events.now s p e) (then_some c.lacks.result whys.LockOrder)) s p
    (lock_told trace.events.now trace.meets s p c.requires.unbroken (slice_index_or s p 0) c.in-Acquire.field-0 c.origin.result c.lacks.result takes (c.origin.ensures.releases c.in-Acquire.field-0 takes) (c.lacks.ensures s p (length trace.events.now) c.requires.walked.stands)))

pub returns-then-eq : goal.returns-then-eq
returns-then-eq c =
    let trace = c.args.rules.now.linked in
    let s = c.args.list.now in
    let p = c.args.at in
    let x = slice_index_or s p 0 in
    let reads = c.op.ensures ∙ ap (λ o. Some o) c.in-Read.is in
    let within : c.in-Read.variable < trace.sizes.variables = op_within_at trace.events.now trace.sizes _ (Read c.in-Read.variable) trace.within (c.op.ensures ∙ ap (λ o. Some o) c.in-Read.is) in
    let latest = write_is trace.events.now s p trace.sizes.variables c.in-Read.variable c.args.self.now.writes.items c.index-in-Read.result.now c.requires.walked.writes within c.index-in-Read.ensures in
    let last = write_link trace.events.now x c.in-Read.variable reads c.origin-in-Read.result (c.origin-in-Read.ensures.writes c.in-Read.variable reads) in
    at_index (λ e. IsLowestIn 5 8 (HasReason trace.events.now s p e) None) s p (read_no_reason trace.events.now trace.meets s p c.requires.unbroken x c.in-Read.variable c.index-in-Read.result.now c.origin-in-Read.result reads latest last (options_same c.index-in-Read.result.now c.origin-in-Read.result c.if-eq.ensures))

pub returns-else-eq : goal.returns-else-eq
returns-else-eq c =
    let trace = c.args.rules.now.linked in
    let s = c.args.list.now in
    let p = c.args.at in
    let x = slice_index_or s p 0 in
    let reads = c.op.ensures ∙ ap (λ o. Some o) c.in-Read.is in
    let within : c.in-Read.variable < trace.sizes.variables = op_within_at trace.events.now trace.sizes _ (Read c.in-Read.variable) trace.within (c.op.ensures ∙ ap (λ o. Some o) c.in-Read.is) in
    let latest = write_is trace.events.now s p trace.sizes.variables c.in-Read.variable c.args.self.now.writes.items c.index-in-Read.result.now c.requires.walked.writes within c.index-in-Read.ensures in
    let last = write_link trace.events.now x c.in-Read.variable reads c.origin-in-Read.result (c.origin-in-Read.ensures.writes c.in-Read.variable reads) in
    at_index (λ e. IsLowestIn 5 8 (HasReason trace.events.now s p e) (Some whys.LastWrite)) s p (read_reason trace.events.now trace.meets s p c.requires.unbroken x c.in-Read.variable c.index-in-Read.result.now c.origin-in-Read.result reads latest last (options_differ c.index-in-Read.result.now c.origin-in-Read.result c.if-eq.ensures))

pub returns-in_default : goal.returns-in_default
returns-in_default c =
    let trace = c.args.rules.now.linked in
    let s = c.args.list.now in
    let p = c.args.at in
    let x = slice_index_or s p 0 in
    at_index (λ e. IsLowestIn 5 8 (HasReason trace.events.now s p e) None) s p (other_operation trace.events.now trace.meets s p c.requires.unbroken x _ c.op.ensures c.in_default.not-Join c.in_default.not-Fork c.in_default.not-Acquire c.in_default.not-Read)
