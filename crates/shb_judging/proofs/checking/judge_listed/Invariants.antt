use Rattle.std.proofs.Common.{◌≡◌, take}
use Rattle.shb_judging.proofs.Words.{AreJudged}
use Rattle.shb_judging.proofs.checking.judge_listed.Given as goal

abbrev pub invariant-loop-k : goal.invariant-loop-k
invariant-loop-k l = record {
  judge : l.judge ≡ l.initial.judge;
  judged : AreJudged l.disciplined.trace.now (take l.k l.report.blocks) l.judged;
}
