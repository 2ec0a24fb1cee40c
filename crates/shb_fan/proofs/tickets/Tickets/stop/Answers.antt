use Rattle.std.proofs.Common.{rules, arith}
use Rattle.shb_fan.proofs.Keeps.{stops}
use Rattle.shb_fan.proofs.tickets.Tickets.stop.Goals as goal

pub store-requires : goal.store-requires
store-requires c = (search rules, search rules, stops _ _ _ _ (let p = c.pass.invariant.one in omega arith))
