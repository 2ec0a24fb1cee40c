use Rattle.shb_stamps.proofs.Words.{SweepData, common_steps}
use Rattle.std.proofs.Common.{◌<◌, arith, false, length, subst, sym}
use Rattle.shb_stamps.proofs.Locals.{local_is}
use Rattle.shb_stamps.proofs.sweep.Sweep.screen.Goals as goal

pub returns : goal.returns
returns c =
    let linked = c.self.inside.linked in
    let low = subst (λ (s : SweepData). s.next < length s.trace) (sym c.self.view_is) c.requires in
    rw (← c.self.view_is) (λ x accesses h. c.after_access.ensures.screened linked.events.now c.self.inside.next x false linked.meets (c.self.invariant low) (record {
      own_is = record { thread_is = c.thread.ensures; time_is = local_is linked.events.now linked.links.now c.self.inside.next c.local.result c.thread.result linked.of_links c.local.ensures.time c.thread.ensures };
      accesses = accesses;
      reads = λ reads writes. (let is = c.is_write-writes.ensures in let op = c.op.ensures in grind (arith, common_steps));
    }) h)
