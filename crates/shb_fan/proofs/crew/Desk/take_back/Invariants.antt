use Rattle.std.proofs.Common.{◌≡◌, ◌+◌, ◌<◌, All, length}
use Rattle.std.specs.Vec.{vec_capacity}
use Rattle.shb_fan.specs.Streamed.{AreBack, HasWorked}
use Rattle.shb_fan.proofs.crew.Desk.take_back.Given as goal

abbrev pub invariant-loop-worker : goal.invariant-loop-worker
invariant-loop-worker g l = record {
  left : All (HasWorked g.J.Job.value g.J.Job.count l.self.tickets l.self.ring) l.workers.items;
  back : AreBack g.J.Job.value g.J.Job.count l.self.tickets l.self.ring l.passes.items l.seats.items;
  pass_count : length l.passes.items + length l.workers.items ≡ length l.fn.workers.items;
  seat_count : length l.seats.items + length l.workers.items ≡ length l.fn.seats.items + length l.fn.workers.items;
  pass_room : length l.fn.workers.items < vec_capacity l.passes;
  seat_room : length l.fn.seats.items + length l.fn.workers.items < vec_capacity l.seats;
}

abbrev pub decreases-loop-worker : goal.decreases-loop-worker
decreases-loop-worker g l = length l.workers.items
