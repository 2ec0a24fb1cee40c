use Rattle.shb_fan.specs.Streamed.{CanDraw}
use Rattle.shb_fan.proofs.streaming.work.Given as goal

abbrev pub invariant-loop : goal.invariant-loop
invariant-loop g l = record {
  can : (goal.iterator-loop g).can_next l.iterator';
  ends : (goal.iterator-loop g).is_finite l.iterator';
  ready : CanDraw g.J.Job.value g.J.Job.count l.shared l.worker;
}
