use Rattle.std.proofs.Common.{ℕ, List, get_or, ap, arith}
use Rattle.shb_stamps.proofs.row_list.RowList.is_copy.Goals as goal

pub returns-clause-same : goal.returns-clause-same
returns-clause-same c = λ same t.
    let above = c.is_below.ensures same t in
    let below = c.is_below-below.ensures c.if-not-below.false t in
    let copy = ap (λ (xs : List ℕ). get_or xs t 0) c.row_at-copy.ensures in
    let row = ap (λ (xs : List ℕ). get_or xs t 0) c.row-row.ensures in
    omega (arith, above, below, copy, row)
