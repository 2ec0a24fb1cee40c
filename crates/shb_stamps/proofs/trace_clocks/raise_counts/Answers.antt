use Rattle.std.proofs.Common.{ℕ, List, ap, arith, get_or, get_or-set_other, get_or-set_same, length-set, refl, ◌∙◌}
use Rattle.shb_stamps.proofs.Locals.{local_is}
use Rattle.shb_stamps.proofs.RaisedCounts.{counts_by_row}
use Rattle.shb_stamps.proofs.trace_clocks.raise_counts.Goals as goal

pub returns-then-own-size : goal.returns-then-own-size
returns-then-own-size c =
    let u : ℕ = c.thread-own.result in
    let old : List ℕ = c.args.counts.now.items in
    let time = local_is c.args.linked.now.events.now c.args.linked.now.links.now c.args.e c.local.result u c.args.linked.now.of_links c.local.ensures.time c.thread-own.ensures in
    let item = c.item_or.ensures ∙ ap (λ (xs : List ℕ). get_or xs u 0) c.as_slice.ensures.value in
    let count = c.max-count.ensures in
    let long = c.in_ok-resize.ensures.len in
    let test = c.if-own-size.true in
    counts_by_row _ c.args.e c.args.linked.now.meets c.args.rows.now.list c.args.row u c.max-count.result c.len-size.result _ old c.raise.new.clock.items c.resize.new.self.items _ c.thread-own.ensures (c.requires.row u c.thread-own.ensures)
    (omega (arith, count, item, time)) c.in_ok-raise.ensures (let size = c.len-size.ensures in omega (arith, size)) c.in_ok-resize.ensures.items (let same = length-set c.resize.new.self.items u c.max-count.result in omega (arith, same, long))
    (λ t ne. get_or-set_other c.resize.new.self.items u t c.max-count.result 0 ne) (λ low. get_or-set_same c.resize.new.self.items u c.max-count.result 0 (omega (arith, long, low)))

pub returns-else-own-size : goal.returns-else-own-size
returns-else-own-size c =
    let u : ℕ = c.thread-own.result in
    let old : List ℕ = c.args.counts.now.items in
    let time = local_is c.args.linked.now.events.now c.args.linked.now.links.now c.args.e c.local.result u c.args.linked.now.of_links c.local.ensures.time c.thread-own.ensures in
    let item = c.item_or.ensures ∙ ap (λ (xs : List ℕ). get_or xs u 0) c.as_slice.ensures.value in
    let count = c.max-count.ensures in
    let test = c.if-own-size.false in
    counts_by_row _ c.args.e c.args.linked.now.meets c.args.rows.now.list c.args.row u c.max-count.result c.len-size.result _ old c.raise.new.clock.items c.resize.new.self.items _ c.thread-own.ensures (c.requires.row u c.thread-own.ensures)
    (omega (arith, count, item, time)) c.in_ok-raise.ensures (let size = c.len-size.ensures in omega (arith, size)) c.in_ok-resize.ensures.items (let long = c.in_ok-resize.ensures.len in omega (arith, long))
    (λ t ne. refl) (λ low. absurd (omega (arith, test, low)))
