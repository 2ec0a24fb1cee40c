use Rattle.std.proofs.Common.{rules}
use Rattle.shb_fan.proofs.Rings.{claims}
use Rattle.shb_fan.proofs.shares.Ring.claim.Goals as goal

pub compare_exchange-requires : goal.compare_exchange-requires
compare_exchange-requires g c = (c.requires.seat.1.same_table, search rules, claims _ _ _ _ _ c.args.k c.requires.free)
