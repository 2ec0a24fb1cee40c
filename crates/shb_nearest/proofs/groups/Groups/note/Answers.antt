use Rattle.std.proofs.Common.{List, refl, subst, sym}
use Rattle.shb_nearest.proofs.Words.{AreAllNoted, ArePaired, Group, IsAfter, Sites}
use Rattle.shb_nearest.proofs.SiteLemmas.{paired_none, sites_changed, sites_made}
use Rattle.shb_nearest.proofs.groups.Groups.note.Goals as goal

pub returns-in-Some-clause-sites : goal.returns-in-Some-clause-sites
returns-in-Some-clause-sites c by_variable x entries are =
    let same = c.deref_mut.ensures.value in
    sites_changed by_variable x entries c.args.self.now _ c.in-Some.sites _ c.in-Some.is refl refl (subst (λ (s : Sites). IsAfter s c.note.new.self) same c.in_ok-known.ensures.after)
    (λ paired. c.in_ok-known.ensures.paired by_variable x entries (subst (λ (s : Sites). ArePaired by_variable x entries s.all.items) (sym same) paired)) are

pub returns-clause-sites : goal.returns-clause-sites
returns-clause-sites c by_variable x entries are =
    sites_made by_variable x entries _ c.note_all.new.self c.in_ok-new.field-0 refl (subst (λ (l : List Group). AreAllNoted c.note_all.new.self l) c.as_slice.ensures.value c.in_ok-note_all.ensures.noted)
    (subst (λ (s : Sites). IsAfter c.note_all.new.self s) (sym c.in_ok-new.ensures.ok) c.in_ok-site.ensures.after)
    (subst (λ (s : Sites). ArePaired by_variable x entries s.all.items) (sym c.in_ok-new.ensures.ok) (c.in_ok-site.ensures.paired by_variable x entries (c.in_ok-note_all.ensures.paired by_variable x entries (paired_none by_variable x entries c.new-sites.result.all.items c.new-sites.ensures))))
