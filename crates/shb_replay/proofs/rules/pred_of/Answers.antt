use Rattle.std.proofs.Common.{List, arith, subst}
use Rattle.shb_replay.proofs.Words.{Event, Exactly, ForksThread, OfThread, pred_by_fork, thread_entry, thread_within}
use Rattle.shb_replay.proofs.rules.pred_of.Goals as goal

pub bounds-last-thread : goal.bounds-last-thread
bounds-last-thread c = let low = thread_within c.args.linked.now.events.now c.args.linked.now.sizes c.args.e c.thread-thread.result c.args.linked.now.within c.thread-thread.ensures in omega (arith, low, c.requires.last.as_long)

pub returns : goal.returns
returns c =
    let trace = c.args.linked.now in
    let t = c.thread-thread.result in
    let forked = subst (λ (tr : List Event). Exactly (ForksThread tr t) c.forked_by.result) trace.of_links c.forked_by.ensures in
    rw c.or.ensures (pred_by_fork trace.events.now c.args.e t c.thread-thread.ensures trace.meets _ c.forked_by.result (thread_entry (OfThread trace.events.now) trace.events.now trace.sizes c.args.last.now c.args.e t trace.within c.requires.last c.thread-thread.ensures) forked)
