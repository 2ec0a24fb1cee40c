-- Of the entries of each thread in turn those that race are found.
use Rattle.std.proofs.Common.{arith, get_or, ap, subst, sym, ◌∙◌}
use Rattle.std.proofs.lemmas.Option.{get_or_from_slice_get, slice_get-get_or}
use Rattle.shb_counts.specs.Windows.{AreBelow}
use Rattle.shb_counts.specs.declared.accesses.Entry.{Entry}
use Rattle.shb_counts.proofs.RacingLemmas.{all_counted, all_windows, group_more, looked_on, no_entry, races_within}
use Rattle.shb_counts.proofs.finder.Finder.look.Goals as goal

pub overflow_sub-races : goal.overflow_sub-races
overflow_sub-races c = (c.window_of-window.ensures (get_or c.args.entries.now c.loop-access.at.from no_entry) (slice_get-get_or c.args.entries.now c.loop-access.at.from no_entry (c.any_before.ensures.more c.loop-access-test.true))).forward

pub overflow_add-races : goal.overflow_add-races
overflow_add-races c =
    let lt = c.any_before.ensures.more c.loop-access-test.true in
    let window = c.window_of-window.ensures (get_or c.args.entries.now c.loop-access.at.from no_entry) (slice_get-get_or c.args.entries.now c.loop-access.at.from no_entry lt) in
    let begins = window.begins in
    let forward = window.forward in
    let ends = window.ends in
    let end = c.end_of-to.ensures.end ∙ ap (λ (f : Entry). f.end) (get_or_from_slice_get c.args.entries.now c.loop-access.at.from _ _ (slice_get-get_or c.args.entries.now c.loop-access.at.from no_entry lt)) in
    let races = races_within c.args.self.now.order.now.trace c.args.access.event c.args.entries.now c.loop-access.at.from c.loop-access.races c.loop-access.self.windows.items c.loop-access.invariant.looked in
    omega (arith, begins, forward, ends, end, races, c.end_of-to.ensures.few)

pub overflow_add-next : goal.overflow_add-next
overflow_add-next c = (let low = c.loop-access.invariant.few in let few = c.loop-access.invariant.looked.few in omega (arith, low, few))

pub loop-access-smaller : goal.loop-access-smaller
loop-access-smaller c =
    let lt = c.any_before.ensures.more c.loop-access-test.true in
    let up = group_more c.args.self.now.order.now.trace c.requires.conflicting.0 c.args.access c.args.entries.now c.requires.conflicting.1 c.requires.conflicting.2 c.loop-access.at.from _ c.end_of-to.result (slice_get-get_or c.args.entries.now c.loop-access.at.from _ lt) c.end_of-to.ensures.end lt in
    let on = c.pass_empty-at.ensures.forward in
    omega (arith, up, on)

pub loop-access-preserved : goal.loop-access-preserved
loop-access-preserved c =
    let trace = c.args.self.now.order.now.trace in
    let lt = c.any_before.ensures.more c.loop-access-test.true in
    let there = slice_get-get_or c.args.entries.now c.loop-access.at.from no_entry lt in
    let below = subst (AreBelow trace c.args.access.event) (sym c.in_ok-keep.ensures.below) c.loop-access.invariant.below in
    record {
      looked = c.pass_empty-at.ensures.looked trace c.requires.conflicting.0 _ _ c.requires.conflicting.1 c.requires.conflicting.2 (subst (AreBelow trace c.args.access.event) (sym c.as_slice.ensures.value) below)
          (looked_on trace c.requires.conflicting.0 c.args.access c.args.entries.now c.requires.conflicting.1 c.requires.conflicting.2 c.loop-access.at.from c.loop-access.races c.end_of-to.result c.loop-access.self.windows.items _ (get_or c.args.entries.now c.loop-access.at.from no_entry) c.window_of-window.result there
          (c.end_of-to.ensures.end ∙ ap (λ (f : Entry). f.end) (get_or_from_slice_get c.args.entries.now c.loop-access.at.from _ _ there)) c.end_of-to.ensures.few
          (rw c.loop-access.invariant.order at (c.window_of-window.ensures (get_or c.args.entries.now c.loop-access.at.from no_entry) there)) c.in_ok-keep.ensures.windows c.loop-access.invariant.looked);
      few = c.pass_empty-at.ensures.few;
      below = below;
      order = c.in_ok-keep.ensures.order ∙ c.loop-access.invariant.order;
    }

pub returns-clause-windows : goal.returns-clause-windows
returns-clause-windows c =
    all_windows c.args.self.now.order.now.trace c.requires.conflicting.0 c.args.access c.args.entries.now c.requires.conflicting.1 c.requires.conflicting.2 c.loop-access.at.from c.loop-access.races c.loop-access.self.windows.items (c.any_before.ensures.none c.loop-access-test.false) c.loop-access.invariant.looked

pub returns-clause-count : goal.returns-clause-count
returns-clause-count c =
    all_counted c.args.self.now.order.now.trace c.requires.conflicting.0 c.args.access c.args.entries.now c.requires.conflicting.1 c.requires.conflicting.2 c.loop-access.at.from c.loop-access.races c.loop-access.self.windows.items (c.any_before.ensures.none c.loop-access-test.false) c.loop-access.invariant.looked
