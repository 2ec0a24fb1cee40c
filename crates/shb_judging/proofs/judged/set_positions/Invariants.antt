use Rattle.std.proofs.Common.{◌≡◌, map, take}
use Rattle.shb_judging.proofs.Words.{position_of}
use Rattle.shb_judging.proofs.judged.set_positions.Given as goal

abbrev pub invariant-loop-number : goal.invariant-loop-number
invariant-loop-number l = l.positions.items ≡ map (position_of l.count) (take l.number-index l.first)
