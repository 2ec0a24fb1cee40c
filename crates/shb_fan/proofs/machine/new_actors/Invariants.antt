use Rattle.std.proofs.Common.{◌≡◌, replicate}
use Rattle.shb_fan.specs.Machine.{new_actor}
use Rattle.shb_fan.proofs.machine.new_actors.Given as goal

abbrev pub invariant-loop-a : goal.invariant-loop-a
invariant-loop-a l = l.all.items ≡ replicate l.a new_actor
