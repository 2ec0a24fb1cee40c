use Rattle.std.proofs.Common.{arith, ap, length}
use Rattle.shb_stamps.proofs.RowLemmas.{row_length}
use Rattle.shb_stamps.proofs.row.Row.len.Goals as goal

pub returns : goal.returns
returns c =
    let long = row_length c.self.inside.chunks.now c.self.inside.numbers.now c.self.inside.rest.now c.self.invariant.chunks_are c.self.invariant.numbers_are in
    let view = ap length c.self.view_is in
    omega (arith, long, view)
