use Rattle.std.proofs.Common.{refl, subst, sym}
use Rattle.shb_nearest.proofs.Words.{ArePaired, IsAfter, Sites}
use Rattle.shb_nearest.proofs.SiteLemmas.{sites_changed}
use Rattle.shb_nearest.proofs.groups.Groups.learn.Goals as goal

pub returns-in_ok-learn-clause-sites : goal.returns-in_ok-learn-clause-sites
returns-in_ok-learn-clause-sites c by_variable x entries known are =
    let same = c.deref_mut.ensures.value in
    sites_changed by_variable x entries c.args.self.now _ c.in-Some.sites _ c.in-Some.is refl refl (subst (λ (s : Sites). IsAfter s c.learn.new.self) same c.in_ok-learn.ensures.after)
    (λ paired. c.in_ok-learn.ensures.paired by_variable x entries known (subst (λ (s : Sites). ArePaired by_variable x entries s.all.items) (sym same) paired)) are
