use Rattle.std.proofs.Common.{ℕ, List, [], get_or, length, ap, arith, ◌∙◌}
use Rattle.shb_stamps.proofs.Words.{BelowPred, Event, length_push}
use Rattle.shb_stamps.proofs.ListedLemmas.{row_copied}
use Rattle.shb_stamps.proofs.Stamping.{more_push, more_same, row_pushed}
use Rattle.shb_stamps.proofs.listed_rows.keep.Goals as goal

pub returns-then-same-clause-more : goal.returns-then-same-clause-more
returns-then-same-clause-more c = more_same c.args.rows.now.list

pub returns-then-same-clause-row : goal.returns-then-same-clause-row
returns-then-same-clause-row c t of_t =
    let trace : List Event = c.args.linked.now.events.now in
    row_copied trace c.args.clocks.now.rows.list c.args.rows.now.list t c.row_before-before.result c.item_or-kept.result (λ k. BelowPred trace k c.args.e)
    (c.is_copy-same.ensures.in_range c.if-same.true) (c.is_copy-same.ensures.same c.if-same.true) (c.row_before-before.ensures t of_t)

pub returns-clause-more : goal.returns-clause-more
returns-clause-more c = more_push c.args.rows.now.list c.push_from.new.self.list (get_or c.args.clocks.now.rows.list c.row_before-before.result []) c.in_ok-number.ensures.rows

pub returns-clause-few : goal.returns-clause-few
returns-clause-few c = let size = ap length c.in_ok-number.ensures.rows ∙ length_push c.args.rows.now.list (get_or c.args.clocks.now.rows.list c.row_before-before.result []) in omega (arith, size)

pub returns-clause-row : goal.returns-clause-row
returns-clause-row c t of_t =
    let trace : List Event = c.args.linked.now.events.now in
    let row : List ℕ = get_or c.args.clocks.now.rows.list c.row_before-before.result [] in
    let pushed = row_pushed c.args.rows.now.list c.push_from.new.self.list row c.in_ok-number.number c.in_ok-number.ensures.rows (c.in_ok-number.ensures.number (let few = c.requires.few in omega (arith, few))) in
    row_copied trace c.args.clocks.now.rows.list c.push_from.new.self.list t c.row_before-before.result c.in_ok-number.number (λ k. BelowPred trace k c.args.e)
    pushed.0 (λ u. ap (λ (xs : List ℕ). get_or xs u 0) pushed.1) (c.row_before-before.ensures t of_t)
