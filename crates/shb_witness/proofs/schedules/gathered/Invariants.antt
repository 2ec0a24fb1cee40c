use Rattle.std.proofs.Common.{◌≡◌, ◌++◌, take}
use Rattle.shb_witness.proofs.Words.{range_with_len}
use Rattle.shb_witness.proofs.schedules.gathered.Given as goal

abbrev pub invariant-loop-at : goal.invariant-loop-at
invariant-loop-at l = l.positions ≡ range_with_len 0 l.fn.front ++ take l.at l.rest.items
