use Rattle.std.proofs.Common.{◌≤◌, ◌+◌, ◌-◌, ◌++◌, List}
use Rattle.shb_reading.proofs.Words.{Form, IsAt, Passes, ReadsBlocks, block_forms}
use Rattle.shb_reading.proofs.entries.read_blocks.Given as goal

abbrev pub invariant-loop-number : goal.invariant-loop-number
invariant-loop-number l = record {
  within : l.number ≤ l.count;
  at : IsAt l.text l.at;
  read : ReadsBlocks l.text l.fn.at l.at l.number l.numbers.items l.races.items;
  passes : (forms : List Form) → Passes l.text l.fn.at l.at (block_forms 1 l.count ++ forms) (block_forms (l.number + 1) (l.count - l.number) ++ forms);
}

abbrev pub decreases-loop-number : goal.decreases-loop-number
decreases-loop-number l = l.count - l.number
