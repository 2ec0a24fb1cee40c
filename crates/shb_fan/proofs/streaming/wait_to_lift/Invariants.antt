use Rattle.std.proofs.Common.{◌≡◌}
use Rattle.shb_fan.specs.Seated.{lifted_of}
use Rattle.shb_fan.specs.Streamed.{CanTake}
use Rattle.shb_fan.proofs.streaming.wait_to_lift.Given as goal

abbrev pub invariant-loop : goal.invariant-loop
invariant-loop g l = record {
  can : (goal.iterator-loop g).can_next l.iterator';
  ends : (goal.iterator-loop g).is_finite l.iterator';
  ready : CanTake g.J.Job.value g.J.Job.count l.shared l.own;
  lifted : lifted_of l.own.seat ≡ lifted_of l.fn.own.seat;
}
