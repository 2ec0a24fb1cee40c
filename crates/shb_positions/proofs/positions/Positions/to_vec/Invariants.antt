use Rattle.std.proofs.Common.{◌≡◌, take}
use Rattle.shb_positions.specs.Runs.{positions_in}
use Rattle.shb_positions.proofs.positions.Positions.to_vec.Given as goal

abbrev pub invariant-loop-run : goal.invariant-loop-run
invariant-loop-run l = l.positions.items ≡ positions_in (take l.run-index l.run-items)
