use Rattle.std.proofs.Common.{◌≡◌, ℕ, ◌∷◌, ◌++◌, [], List, Some, arith, length, subst, sym, ◌∙◌}
use Rattle.std.specs.Prelude.{slice_get}
use Rattle.shb_nearest.proofs.Words.{Accesses, AreAccesses, AreLate, Groups, HaveAllSites, HaveSites, Late}
use Rattle.shb_nearest.proofs.Members.{get_before, middle}
use Rattle.shb_nearest.proofs.SiteLemmas.{no_sites, sites_more}
use Rattle.shb_nearest.proofs.TableLemmas.{none_grouped}
use Rattle.shb_nearest.proofs.opened.Opened.open.Goals as goal

pub returns-clause-groups : goal.returns-clause-groups
returns-clause-groups c trace spots n are few =
    let x = c.args.variable in
    let old = c.args.self.now.each.items in
    let w = subst (λ (a : Accesses). AreAccesses trace spots x n c.args.log.now.entries.items old a) c.in-Waiting.is are in
    let late = subst (λ (l : List Late). AreLate trace spots c.args.variable n 0 l) (sym c.as_slice-gathered.ensures.value) (c.in_ok-gather.ensures.gathered trace spots x n w) in
    record {
      groups = c.take_all.new.groups;
      there = subst (λ (l : List Groups). slice_get l c.min-at.result ≡ Some c.take_all.new.groups) (sym pushed) (subst (λ k. slice_get (old ++ c.take_all.new.groups ∷ []) k ≡ Some c.take_all.new.groups) at_end (middle old c.take_all.new.groups []));
      own = c.in_ok-take_all.ensures.own ∙ c.new-groups.ensures.own;
      are = c.in_ok-take_all.ensures.groups trace spots n 0 (none_grouped trace spots n x c.new-groups.result.each.items c.new-groups.ensures.none) late;
    }
  where
    at_end : length c.args.self.now.each.items ≡ c.min-at.result
    at_end = let long = c.len.ensures in let least = c.min-at.ensures in let same = c.args.self.now.each.ok in let whole = c.push.new.self.ok in let more = c.in_ok-push.ensures.len in omega (arith, long, least, same, whole, more, few)

    pushed : c.push.new.self.items ≡ c.args.self.now.each.items ++ c.take_all.new.groups ∷ []
    pushed = c.in_ok-push.ensures.items

pub returns-clause-classes : goal.returns-clause-classes
returns-clause-classes c trace spots n are classes =
    let x = c.args.variable in
    let old = c.args.self.now.each.items in
    let w = subst (λ (a : Accesses). AreAccesses trace spots x n c.args.log.now.entries.items old a) c.in-Waiting.is are in
    let late = subst (λ (l : List Late). AreLate trace spots c.args.variable n 0 l) (sym c.as_slice-gathered.ensures.value) (c.in_ok-gather.ensures.gathered trace spots x n w) in
    c.in_ok-take_all.ensures.classes trace spots n 0 (none_grouped trace spots n x c.new-groups.result.each.items c.new-groups.ensures.none) late classes

pub returns-clause-others : goal.returns-clause-others
returns-clause-others c at groups other there =
    subst (λ (l : List Groups). slice_get l at ≡ Some groups) (sym c.in_ok-push.ensures.items) (get_before c.args.self.now.each.items (c.take_all.new.groups ∷ []) at groups there)

pub returns-clause-sites : goal.returns-clause-sites
returns-clause-sites c by_variable entries are =
    let own = c.in_ok-take_all.ensures.own ∙ c.new-groups.ensures.own in
    let here = c.in_ok-take_all.ensures.sites by_variable entries (no_sites by_variable c.args.variable entries c.new-groups.result c.new-groups.ensures.no_sites) in
    subst (λ (l : List Groups). HaveAllSites by_variable entries l) (sym c.in_ok-push.ensures.items)
    (sites_more by_variable entries c.args.self.now.each.items c.take_all.new.groups are (subst (λ (y : ℕ). HaveSites by_variable y entries c.take_all.new.groups) (sym own) here))
