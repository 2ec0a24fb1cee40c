use Rattle.std.proofs.Common.{◌≡◌}
use Rattle.shb_fan.specs.Seated.{placed_of, lifted_of}
use Rattle.shb_fan.specs.Streamed.{IsIdle, IsShared}
use Rattle.shb_fan.proofs.streaming.wait_to_claim.Given as goal

abbrev pub invariant-loop : goal.invariant-loop
invariant-loop g l = record {
  can : (goal.iterator-loop g).can_next l.iterator';
  ends : (goal.iterator-loop g).is_finite l.iterator';
  ready : IsShared g.J.Job.value g.J.Job.count l.shared × IsIdle g.J.Job.value g.J.Job.count l.shared.desk.now.tickets l.shared.desk.now.ring l.worker;
  source : l.worker.pass.source ≡ l.fn.worker.pass.source;
  drawn : l.worker.pass.drawn ≡ l.fn.worker.pass.drawn;
  halted : l.worker.pass.halted ≡ l.fn.worker.pass.halted;
  seen : l.worker.pass.seen ≡ l.fn.worker.pass.seen;
  placed : placed_of l.worker.seat ≡ placed_of l.fn.worker.seat;
  lifted : lifted_of l.worker.seat ≡ lifted_of l.fn.worker.seat;
}
