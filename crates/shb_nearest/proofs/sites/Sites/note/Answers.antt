use Rattle.std.proofs.Common.{List, ap, subst, sym}
use Rattle.shb_nearest.proofs.Words.{ArePaired, HasSets, Numbers, Site, set}
use Rattle.shb_nearest.proofs.SiteLemmas.{note_after, note_there, paired_site}
use Rattle.shb_nearest.proofs.sites.Sites.note.Goals as goal

pub returns-clause-after : goal.returns-clause-after
returns-clause-after c = note_after c.args.self.now c.take.new.self _ c.args.at c.in_ok-number.number c.args.location c.args.event c.args.writes c.make_sets.new.sets.items c.in_ok-number.ensures.site c.in_ok-number.ensures.sets
    c.in_ok-mark.ensures.all c.in_ok-mark.ensures.kind c.in_ok-mark.ensures.other (subst (λ (l : List Numbers). HasSets l c.make_sets.new.sets.items c.args.at) c.in_ok-mark.ensures.of_groups c.in_ok-make_sets.ensures) c.index_mut.result.now c.index_mut.ensures.value
    (ap (λ (n : Numbers). set c.make_sets.new.sets.items c.args.at n) c.in_ok-insert.ensures.inserted)

pub returns-clause-noted : goal.returns-clause-noted
returns-clause-noted c = note_there c.args.self.now c.take.new.self _ c.args.at c.in_ok-number.number c.args.location c.args.event c.args.writes c.make_sets.new.sets.items c.in_ok-number.ensures.site c.in_ok-number.ensures.sets
    c.in_ok-mark.ensures.all c.in_ok-mark.ensures.kind c.in_ok-mark.ensures.other (subst (λ (l : List Numbers). HasSets l c.make_sets.new.sets.items c.args.at) c.in_ok-mark.ensures.of_groups c.in_ok-make_sets.ensures) c.index_mut.result.now c.index_mut.ensures.value
    (ap (λ (n : Numbers). set c.make_sets.new.sets.items c.args.at n) c.in_ok-insert.ensures.inserted)

pub returns-clause-paired : goal.returns-clause-paired
returns-clause-paired c by_variable x entries are = subst (λ (l : List Site). ArePaired by_variable x entries l) (sym c.in_ok-mark.ensures.all)
    (paired_site by_variable x entries c.args.self.now.all.items c.take.new.self.all.items c.args.location c.args.event c.in_ok-number.number c.in_ok-number.ensures.site are)
