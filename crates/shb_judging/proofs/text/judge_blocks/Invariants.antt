use Rattle.std.proofs.Common.{◌≡◌, ◌≤◌, ◌+◌, ◌-◌, ◌++◌, List}
use Rattle.shb_judging.proofs.Words.{Form, IsAt, JudgesBlocks, Passes, block_forms}
use Rattle.shb_judging.proofs.text.judge_blocks.Given as goal

abbrev pub invariant-loop-number : goal.invariant-loop-number
invariant-loop-number l = record {
  within : l.number ≤ l.count;
  judge : l.judge ≡ l.fn.judge;
  at : IsAt l.text l.at;
  read : JudgesBlocks l.disciplined.trace.now l.text l.fn.at l.at l.number l.judged;
  passes : (forms : List Form) → Passes l.text l.fn.at l.at (block_forms 1 l.count ++ forms) (block_forms (l.number + 1) (l.count - l.number) ++ forms);
}

abbrev pub decreases-loop-number : goal.decreases-loop-number
decreases-loop-number l = l.count - l.number
