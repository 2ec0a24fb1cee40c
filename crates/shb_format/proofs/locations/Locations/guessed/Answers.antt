use Rattle.shb_format.proofs.Words.{bytes_eq-Decides, common_steps, slice_get-map}
use Rattle.std.proofs.Common.{option_map, arith}
use Rattle.shb_format.proofs.locations.Locations.guessed.Goals as goal

pub returns-then-eq : goal.returns-then-eq
returns-then-eq c = grind (arith, common_steps, c.in_ok-known.ensures.key, c.self.view_is, c.if-eq.ensures, slice_get-map, option_map, bytes_eq-Decides)
