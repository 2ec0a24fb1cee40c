use Rattle.shb_links.proofs.Words.{thread_within}
use Rattle.std.proofs.Common.{arith}
use Rattle.shb_links.proofs.Steps.{time_next, time_start, time_small}
use Rattle.shb_links.proofs.pass.next_local.Goals as goal

pub bounds : goal.bounds
bounds c =
    let trace = c.args.disciplined.now in
    let low = thread_within trace.events.now trace.sizes c.args.e c.thread.result trace.within c.thread.ensures in
    omega (arith, low, c.requires.last.as_long)

pub overflow_add-result : goal.overflow_add-result
overflow_add-result c =
    let small = time_small c.args.disciplined.now.events.now c.args.disciplined.now.sizes c.args.e c.thread.result c.args.disciplined.now.within c.thread.ensures c.args.locals.now c.args.last.now c.in-Some.p c.requires.in_range c.requires.locals c.requires.last c.in-Some.is in
    omega (arith, small)

pub returns-in-Some : goal.returns-in-Some
returns-in-Some c = time_next c.args.disciplined.now.events.now c.args.disciplined.now.sizes c.args.e c.thread.result c.args.disciplined.now.within c.thread.ensures c.args.locals.now c.args.last.now c.in-Some.p c.requires.locals c.requires.last c.in-Some.is

pub returns-in-None : goal.returns-in-None
returns-in-None c = time_start c.args.disciplined.now.events.now c.args.disciplined.now.sizes c.args.e c.thread.result c.args.disciplined.now.within c.thread.ensures c.args.last.now c.requires.last c.in-None.is
