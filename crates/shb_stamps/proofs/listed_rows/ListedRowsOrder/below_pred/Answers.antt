use Rattle.std.proofs.Common.{◌≡◌, ◌<◌, ℕ, List, get_or, length, subst}
use Rattle.shb_stamps.proofs.ListedLemmas.{listed_read}
use Rattle.shb_stamps.proofs.listed_rows.ListedRowsOrder.below_pred.Goals as goal

pub count_below-requires-clause-row : goal.count_below-requires-clause-row
count_below-requires-clause-row c u of_e =
    let low = subst (λ (xs : List ℕ). c.position_of-at.result < length xs) c.as_slice.ensures.value c.position_of-at.ensures.in_range in
    let here = subst (λ (xs : List ℕ). get_or xs c.position_of-at.result 0 ≡ c.args.e) c.as_slice.ensures.value c.position_of-at.ensures.item in
    listed_read c.self.inside.linked.events.now c.self.inside.events.items c.self.inside.rows.list c.position_of-at.result c.args.e u c.index.result.now c.self.inside.before.items low here of_e c.self.invariant.1 c.index.ensures
