-- A set puts a new location last and keeps a known one.
use Rattle.shb_format.proofs.Words.{bytes_eq-Decides, common_steps, slice_get-map}
use Rattle.std.proofs.Common.{option_map, arith, sym}
use Rattle.shb_format.proofs.Numbered.{inserted, known_stay, still_different}
use Rattle.shb_format.proofs.locations.Locations.number_of.Goals as goal

pub invariant_of-self-2 : goal.invariant_of-self-2
invariant_of-self-2 c = grind (arith, common_steps, c.in_ok-number.ensures.keys, inserted, still_different, c.self.invariant)

pub returns-clause-known : goal.returns-clause-known
returns-clause-known c = grind (arith, common_steps, c.in_ok-number.ensures.keys, inserted, c.self.view_is)

pub returns-clause-number : goal.returns-clause-number
returns-clause-number c = grind (arith, common_steps, c.in_ok-number.ensures.stored, slice_get-map, option_map, bytes_eq-Decides)

pub returns-in-Some-clause-known : goal.returns-in-Some-clause-known
returns-in-Some-clause-known c = sym (known_stay c.args.self.now c.args.location.now c.in-Some.number c.in-Some.ensures)
