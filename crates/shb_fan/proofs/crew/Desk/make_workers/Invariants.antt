use Rattle.std.proofs.Common.{◌≡◌, ◌+◌, All, length}
use Rattle.std.specs.Vec.{vec_capacity}
use Rattle.shb_fan.specs.Passes.{fresh}
use Rattle.shb_fan.specs.Seated.{IsNewSeat}
use Rattle.shb_fan.specs.Streamed.{IsNew}
use Rattle.shb_fan.proofs.crew.Desk.make_workers.Given as goal

abbrev pub invariant-loop-pass : goal.invariant-loop-pass
invariant-loop-pass g l = record {
  passes : All (λ p. p ≡ fresh l.self.tickets) l.passes.items;
  seats : All (IsNewSeat g.J.Job.value g.J.Job.count l.self.ring) l.seats.items;
  left : length l.passes.items + length l.workers.items ≡ length l.fn.passes.items;
  used : length l.seats.items + length l.workers.items ≡ length l.fn.seats.items;
  made : All (IsNew g.J.Job.value g.J.Job.count l.self.tickets l.self.ring) l.workers.items;
  pass_room : vec_capacity l.passes ≡ vec_capacity l.fn.passes;
  seat_room : vec_capacity l.seats ≡ vec_capacity l.fn.seats;
}

abbrev pub decreases-loop-pass : goal.decreases-loop-pass
decreases-loop-pass g l = length l.passes.items
