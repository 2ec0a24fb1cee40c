use Rattle.shb_fan.specs.Streamed.{CanTake, HasLifted, HasTaken}
use Rattle.shb_fan.proofs.streaming.take_all.Given as goal

abbrev pub invariant-loop-k : goal.invariant-loop-k
invariant-loop-k g l = record {
  ready : CanTake g.J.Job.value g.J.Job.count l.shared l.own;
  taken : HasTaken g.J.Job.meaning (g.J.Job.value l.shared.gated.job.now) g.K.Taker.takes l.fn.taker l.k l.taker;
  lifted : HasLifted l.own l.k;
}
