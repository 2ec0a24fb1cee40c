use Rattle.std.proofs.Common.{take}
use Rattle.shb_fan.specs.Machine.{Runs, start}
use Rattle.shb_fan.proofs.machine.replay.Given as goal

abbrev pub invariant-loop-at : goal.invariant-loop-at
invariant-loop-at l = Runs (start l.actors l.pieces) (take l.at l.steps) l.fan
