-- The number of races stands after the number of the place.
use Rattle.std.proofs.Common.{arith}
use Rattle.shb_reading.proofs.Peeling.{place_by}
use Rattle.shb_reading.proofs.grammar.place_in.Goals as goal

pub returns : goal.returns
returns c = place_by c.args.line.now c.args.number c.in_ok-rest.rest.now c.number_in.result (omega (arith, c.ranges.number.fits)) c.in_ok-rest.ensures c.number_in.ensures
