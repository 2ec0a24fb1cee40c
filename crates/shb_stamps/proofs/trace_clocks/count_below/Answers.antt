use Rattle.shb_stamps.proofs.Words.{Event, common_steps}
use Rattle.std.proofs.Common.{ℕ, List, refl, arith}
use Rattle.shb_stamps.proofs.Locals.{local_is, time_at}
use Rattle.shb_stamps.proofs.Counting.{count_other, count_own}
use Rattle.shb_stamps.proofs.trace_clocks.count_below.Goals as goal

pub returns-then-t-thread : goal.returns-then-t-thread
returns-then-t-thread c = grind (arith, common_steps, c.thread.ensures, local_is, c.local.ensures.time, time_at, count_own, c.if-t-thread.true)

pub entry_at-requires : goal.entry_at-requires
entry_at-requires c = (c.requires.row _ c.thread.ensures).in_range

pub returns : goal.returns
returns c =
    let trace : List Event = c.args.linked.now.events.now in
    let u : ℕ = c.thread.result in
    let before = c.requires.row u c.thread.ensures in
    count_other trace trace c.args.rows.now.list c.args.e u c.args.t c.args.row c.entry_at.result _ refl before refl c.if-t-thread.false c.entry_at.ensures
