use Rattle.std.proofs.Common.{arith}
use Rattle.shb_fan.specs.Machine.{state_from}
use Rattle.shb_fan.proofs.Starts.{next_small}
use Rattle.shb_fan.proofs.machine.Fan.draw.Goals as goal

pub overflow_add-self : goal.overflow_add-self
overflow_add-self c = let small = next_small (state_from c.self.inside.next c.self.inside.actors.items c.self.inside.pieces.items c.self.inside.taken c.self.inside.stopped) c.self.invariant in omega (arith, small)
