-- Each thread that is passed has an empty window.
use Rattle.std.proofs.Common.{arith, get_or, ap, ◌∙◌}
use Rattle.std.proofs.lemmas.Option.{get_or_from_slice_get, slice_get-get_or}
use Rattle.shb_counts.specs.declared.accesses.Entry.{Entry}
use Rattle.shb_counts.proofs.RacingLemmas.{group_more, no_entry, passed_on, rises_on}
use Rattle.shb_counts.proofs.finder.pass_empty.Goals as goal

pub is_empty-requires : goal.is_empty-requires
is_empty-requires c entry at = rises_on c.requires.conflicting.0 c.requires.conflicting.1 c.args.access c.args.entries.now c.requires.conflicting.2 c.requires.conflicting.3 c.loop-access.at.from entry at

pub loop-access-smaller : goal.loop-access-smaller
loop-access-smaller c =
    let lt = c.is_empty.ensures.more c.loop-access-test.true in
    group_more c.requires.conflicting.0 c.requires.conflicting.1 c.args.access c.args.entries.now c.requires.conflicting.2 c.requires.conflicting.3 c.loop-access.at.from _ c.end_of.result (slice_get-get_or c.args.entries.now c.loop-access.at.from _ lt) c.end_of.ensures.end lt

pub loop-access-preserved : goal.loop-access-preserved
loop-access-preserved c =
    let lt = c.is_empty.ensures.more c.loop-access-test.true in
    let up = group_more c.requires.conflicting.0 c.requires.conflicting.1 c.args.access c.args.entries.now c.requires.conflicting.2 c.requires.conflicting.3 c.loop-access.at.from _ c.end_of.result (slice_get-get_or c.args.entries.now c.loop-access.at.from _ lt) c.end_of.ensures.end lt in
    let low = c.loop-access.invariant.few in
    let so_far = c.loop-access.invariant.forward in
    record {
      looked = λ trace numbers races windows is are below looked. (
          let empty = c.is_empty.ensures.empty c.loop-access-test.true (get_or c.args.entries.now c.loop-access.at.from no_entry) (slice_get-get_or c.args.entries.now c.loop-access.at.from no_entry lt) in
          passed_on trace numbers c.args.access c.args.entries.now is are c.loop-access.at.from races c.end_of.result _ empty.1 windows (get_or c.args.entries.now c.loop-access.at.from no_entry)
          (slice_get-get_or c.args.entries.now c.loop-access.at.from no_entry lt) (c.end_of.ensures.end ∙ ap (λ (f : Entry). f.end) (get_or_from_slice_get c.args.entries.now c.loop-access.at.from _ _ (slice_get-get_or c.args.entries.now c.loop-access.at.from no_entry lt)))
          c.end_of.ensures.few (below _ empty.0) empty.2 (c.loop-access.invariant.looked trace numbers races windows is are below looked));
      forward = omega (arith, up, so_far);
      few = omega (arith, up, low);
    }
