use Rattle.std.proofs.Common.{arith, inl, inr, length, refl}
use Rattle.shb_nearest.proofs.Words.{cases_lt, slice_get_read, slice_get_within}
use Rattle.shb_nearest.proofs.SiteLemmas.{noted_after, one_noted}
use Rattle.shb_nearest.proofs.sites.Sites.note_all.Goals as goal

pub loop-at-preserved : goal.loop-at-preserved
loop-at-preserved c =
    let groups = c.args.groups.now in
    let more = c.loop-at-test.true in
    let was = c.loop-at.invariant in
    let here = slice_get_read groups (length groups) c.loop-at.at c.index-groups-at.result refl (omega (arith, more)) c.index-groups-at.is in
    record {
      noted = λ at g lt there. elim (cases_lt at c.loop-at.at) [
        | inl low ↦ noted_after c.loop-at.self c.note_group.new.self at g.writes g.kept.items c.in_ok-note_group.ensures.after (was.noted at g low there)
        | inr high ↦ one_noted c.note_group.new.self groups c.loop-at.at at c.index-groups-at.result g here there (omega (arith, lt, high)) c.in_ok-note_group.ensures.noted
      ];
      paired = λ by_variable x entries are. c.in_ok-note_group.ensures.paired by_variable x entries (was.paired by_variable x entries are);
    }

pub returns-clause-noted : goal.returns-clause-noted
returns-clause-noted c at g there =
    let done = c.loop-at-test.false in
    let lt = slice_get_within c.args.groups.now at g there in
    c.loop-at.invariant.noted at g (omega (arith, done, lt)) there
