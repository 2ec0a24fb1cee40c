-- Variables without an access were put behind those that were there.
use Rattle.std.proofs.Common.{◌+◌, ◌-◌, length}
use Rattle.shb_nearest.proofs.Words.{AreMoreVariables}
use Rattle.shb_nearest.proofs.tables.make_space.Given as goal

abbrev pub invariant-loop-variables : goal.invariant-loop-variables
invariant-loop-variables l = AreMoreVariables l.fn.variables.items l.variables.items

abbrev pub decreases-loop-variables : goal.decreases-loop-variables
decreases-loop-variables l = (l.variable + 1) - length l.variables.items
