use Rattle.std.proofs.Common.{◌≤◌, length}
use Rattle.shb_witness.proofs.Words.{IsListed, IsWithinCuts}
use Rattle.shb_witness.proofs.schedules.passed.Given as goal

abbrev pub invariant-loop-k : goal.invariant-loop-k
invariant-loop-k g l = record {
  found : IsListed (IsWithinCuts l.fn.ordered.disciplined.now.events.now l.fn.cuts) l.k l.positions;
  few : length l.positions ≤ l.k;
}
