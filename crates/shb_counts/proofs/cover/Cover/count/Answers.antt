use Rattle.std.proofs.Common.{◌+◌, ◌-◌, ◌<◌, ◌++◌, ◌∙◌, arith, flat_map, get_or, length, subst, sym, take, List}
use Rattle.std.proofs.lemmas.List.{take_all}
use Rattle.shb_counts.proofs.Words.{get_or_default_zero, slice_get-get_or}
use Rattle.shb_counts.specs.Covers.{IsEarliest, pairs_at}
use Rattle.shb_counts.specs.Sums.{AreSumsOf}
use Rattle.shb_counts.specs.declared.accesses.Entry.{Entry}
use Rattle.shb_counts.proofs.CoveredLemmas.{by_event, entries_more, running_few, running_is, running_more}
use Rattle.shb_counts.proofs.cover.Cover.count.Goals as goal

pub overflow_sub-covering : goal.overflow_sub-covering
overflow_sub-covering c =
    let r = c.requires in
    let k = c.loop-k.k in
    let cover = c.args.self.now in
    let lt : k < length c.args.entries.now = omega (arith, c.loop-k-test.true, c.loop-k.auto.k-end) in
    let start = c.from-covering.ensures ∙ (c.index.ensures ∙ get_or_default_zero cover.starts.items k c.index.result.now (let size = r.2.sized.starts in omega (arith, lt, size))) in
    let end = c.from-covering-in-loop-k.ensures ∙ (c.index-in-loop-k.ensures ∙ get_or_default_zero cover.ends.items k c.index-in-loop-k.result.now (let size = r.2.sized.ends in omega (arith, lt, size))) in
    let now = running_is r.0 c.args.entries.now r.1 cover r.2 k c.loop-k.covering (record { thread = 0; event = 0; time = 0; location = 0; end = 0; least = 0 }) lt c.loop-k.invariant.running in
    omega (arith, now, start, end)

pub loop-k-preserved : goal.loop-k-preserved
loop-k-preserved c =
    let r = c.requires in
    let k = c.loop-k.k in
    let cover = c.args.self.now in
    let entries = c.args.entries.now in
    let lt : k < length entries = omega (arith, c.loop-k-test.true, c.loop-k.auto.k-end) in
    let start = c.from-covering.ensures ∙ (c.index.ensures ∙ get_or_default_zero cover.starts.items k c.index.result.now (let size = r.2.sized.starts in omega (arith, lt, size))) in
    let end = c.from-covering-in-loop-k.ensures ∙ (c.index-in-loop-k.ensures ∙ get_or_default_zero cover.ends.items k c.index-in-loop-k.result.now (let size = r.2.sized.ends in omega (arith, lt, size))) in
    let none_there : Entry = record { thread = 0; event = 0; time = 0; location = 0; end = 0; least = 0 } in
    let now = running_is r.0 entries r.1 cover r.2 k c.loop-k.covering none_there lt c.loop-k.invariant.running in
    let few = running_few r.0 entries r.1 cover r.2 k c.loop-k.covering none_there lt c.loop-k.invariant.running in
    record {
      running = running_more r.0 entries r.1 cover r.2 k c.loop-k.covering none_there lt c.loop-k.invariant.running (c.loop-k.covering + c.from-covering.result - c.from-covering-in-loop-k.result) (omega (arith, now, start, end));
      few = omega (arith, now, start, end, few);
      sums = λ trace numbers events pairs h each at before.
          (let here = h.first k (get_or entries k none_there) (slice_get-get_or entries k none_there lt) in
          let value = c.index-in-loop-k-2.ensures ∙ get_or_default_zero cover.first.items k c.index-in-loop-k-2.result.now (let size = h.sized.first in omega (arith, lt, size)) in
          let counted = running_is trace entries events cover h k c.loop-k.covering none_there lt c.loop-k.invariant.running in
          entries_more trace numbers events entries k none_there pairs c.add_sum.new.table.sums.items lt
          (c.in_ok-add_sum.ensures trace numbers events (pairs ++ flat_map (pairs_at trace events) (take k entries)) (subst (IsEarliest trace events (get_or entries k none_there).event) (sym value) here)
          (omega (arith, counted, start, end)) (each k none_there lt) at (c.loop-k.invariant.sums trace numbers events pairs h each at before)));
    }

pub returns : goal.returns
returns c trace numbers events pairs h each at before =
    let entries = c.args.entries.now in
    let whole = take_all c.loop-k.k entries (omega (arith, c.loop-k-test.false, c.loop-k.auto.k-end)) in
    by_event trace numbers events entries pairs c.loop-k.table.sums.items
    (subst (λ (es : List Entry). AreSumsOf trace numbers (pairs ++ flat_map (pairs_at trace events) es) c.loop-k.table.sums.items) whole (c.loop-k.invariant.sums trace numbers events pairs h each at before))
