-- The search finds the first line feed.
use Rattle.shb_reading.proofs.LineEnds.{free_whole, line_found}
use Rattle.shb_reading.proofs.position.line_from.Goals as goal

pub returns : goal.returns
returns c = line_found c.args.rest.now c.in_ok-len.len c.in_ok-len.ensures

pub returns-in_err-len : goal.returns-in_err-len
returns-in_err-len c = rw c.from_residual.ensures (free_whole c.args.rest.now c.in_err-len.ensures)
