use Rattle.std.proofs.Common.{◌≡◌, ℕ, ◌+◌, arith, subst, sym, ◌∙◌}
use Rattle.shb_nearest.proofs.Words.{AreGroups, Groups, HaveSites, slice_get_within}
use Rattle.shb_nearest.proofs.GroupLemmas.{groups_next}
use Rattle.shb_nearest.proofs.Members.{at_set, one_there}
use Rattle.shb_nearest.proofs.SiteLemmas.{sites_written}
use Rattle.shb_nearest.proofs.TableLemmas.{classes_later, stay_groups}
use Rattle.shb_nearest.proofs.opened.Opened.take.Goals as goal

pub returns-clause-since : goal.returns-clause-since
returns-clause-since c trace spots have classes =
    c.in_ok-before.ensures.since trace spots c.args.late.event (subst (λ (g : Groups). AreGroups trace spots c.args.variable c.args.late.event c.args.late.event g.each.items) (one_there c.args.self.now.each.items c.args.at have.groups c.in-Some.groups.now have.there c.in-Some.ensures.value) have.are) classes

pub returns-clause-classes : goal.returns-clause-classes
returns-clause-classes c trace spots have late classes = c.in_ok-before.ensures.classes trace spots (c.args.late.event + 1) late (omega arith) (classes_later trace spots c.args.late.event c.args.self.now.classes.newest.entries classes)

pub returns-clause-groups : goal.returns-clause-groups
returns-clause-groups c trace spots have late =
    let one = one_there c.args.self.now.each.items c.args.at have.groups c.in-Some.groups.now have.there c.in-Some.ensures.value in
    let n = c.args.late.event in
    record {
      groups = c.take.new.self;
      there = at_set c.args.self.now.each.items c.args.at c.take.new.self (slice_get_within c.args.self.now.each.items c.args.at have.groups have.there);
      own = c.in_ok-before.ensures.own ∙ subst (λ (g : Groups). g.variable ≡ c.args.variable) one have.own;
      are = c.in_ok-before.ensures.groups trace spots (n + 1) (groups_next trace spots c.args.variable n c.in-Some.groups.now.each.items n (omega arith) (subst (λ (g : Groups). AreGroups trace spots c.args.variable c.args.late.event c.args.late.event g.each.items) one have.are)) late (omega arith);
    }

pub returns-clause-others : goal.returns-clause-others
returns-clause-others c trace spots have = stay_groups trace spots c.args.variable c.args.late.event c.args.self.now.each.items c.args.at c.take.new.self have

pub returns-clause-sites : goal.returns-clause-sites
returns-clause-sites c trace spots by_variable entries have are =
    let each = c.args.self.now.each.items in
    let one = one_there each c.args.at have.groups c.in-Some.groups.now have.there c.in-Some.ensures.value in
    let own = subst (λ (g : Groups). g.variable ≡ c.args.variable) one have.own in
    let was = subst (λ (g : Groups). HaveSites by_variable g.variable entries g) one (are c.args.at have.groups have.there) in
    let here = c.in_ok-before.ensures.sites by_variable entries (subst (λ (y : ℕ). HaveSites by_variable y entries c.in-Some.groups.now) own was) in
    sites_written by_variable entries each c.args.at c.take.new.self (slice_get_within each c.args.at have.groups have.there) are (subst (λ (y : ℕ). HaveSites by_variable y entries c.take.new.self) (sym (c.in_ok-before.ensures.own ∙ own)) here)
