use Rattle.std.proofs.Common.{◌∙◌, List, ap, length, refl, subst, sym}
use Rattle.shb_nearest.proofs.Words.{Group, HasGroupAt, access_in, slice_get_read, slice_get_within}
use Rattle.shb_nearest.proofs.GroupLemmas.{group_same, noted}
use Rattle.shb_nearest.proofs.SiteLemmas.{sites_found, sites_kept}
use Rattle.shb_nearest.proofs.TableLemmas.{classes_put, since_is, since_kept}
use Rattle.shb_nearest.proofs.groups.Groups.take.Goals as goal

pub returns-then-len-le-ACCESSES_IN_TURN-clause-since : goal.returns-then-len-le-ACCESSES_IN_TURN-clause-since
returns-then-len-le-ACCESSES_IN_TURN-clause-since c trace spots n groups are =
    let found = subst (λ (l : List Group). HasGroupAt c.args.self.now.each.items l c.args.late.thread c.args.late.writes c.in_ok-at.at) (sym c.in_ok-site.ensures.each) c.in_ok-at.ensures.group in
    let mid = c.note.new.self.each.items in
    let at_old = slice_get_read mid (length mid) c.in_ok-at.at c.in-Some.group.now refl (slice_get_within mid c.in_ok-at.at found.group found.there) c.in-Some.ensures.value in
    since_kept trace spots c.args.late.event c.args.variable (access_in c.args.late) c.in_ok-before.before c.args.self.now.each.items mid n c.in_ok-at.at c.in-Some.group.now refl groups found at_old c.in_ok-before.ensures.before

pub returns-then-len-le-ACCESSES_IN_TURN-clause-groups : goal.returns-then-len-le-ACCESSES_IN_TURN-clause-groups
returns-then-len-le-ACCESSES_IN_TURN-clause-groups c trace spots n are is past =
    let found = subst (λ (l : List Group). HasGroupAt c.args.self.now.each.items l c.args.late.thread c.args.late.writes c.in_ok-at.at) (sym c.in_ok-site.ensures.each) c.in_ok-at.ensures.group in
    let mid = c.note.new.self.each.items in
    let at_old = slice_get_read mid (length mid) c.in_ok-at.at c.in-Some.group.now refl (slice_get_within mid c.in_ok-at.at found.group found.there) c.in-Some.ensures.value in
    noted trace spots c.args.variable c.args.late.event (access_in c.args.late) refl is.own (record { event = c.args.late.event; time = c.args.late.time; spot = (access_in c.args.late).spot; site = c.in_ok-site.site }) refl refl is.time_is
    n past c.args.self.now.each.items mid c.in_ok-at.at c.in-Some.group.now c.replace.new.self are found at_old c.in_ok-before.ensures.kept

pub returns-clause-since : goal.returns-clause-since
returns-clause-since c trace spots n groups are = since_is trace spots c.args.late.event c.args.classes.now.newest.entries c.args.variable c.in_ok-before-2.before (access_in c.args.late) refl are c.in_ok-before-2.ensures.before

pub returns-clause-classes : goal.returns-clause-classes
returns-clause-classes c trace spots n is past are = classes_put trace spots n c.args.classes.now.newest.entries c.put.new.self.newest.entries c.args.variable (access_in c.args.late) past is.own c.in_ok-before-2.ensures.updates are

pub returns-clause-groups : goal.returns-clause-groups
returns-clause-groups c trace spots n are is past =
    let found = subst (λ (l : List Group). HasGroupAt c.args.self.now.each.items l c.args.late.thread c.args.late.writes c.in_ok-at.at) (sym c.in_ok-site.ensures.each) c.in_ok-at.ensures.group in
    let mid = c.note.new.self.each.items in
    let at_old = slice_get_read mid (length mid) c.in_ok-at.at c.in-Some.group.now refl (slice_get_within mid c.in_ok-at.at found.group found.there) c.in-Some.ensures.value in
    noted trace spots c.args.variable c.args.late.event (access_in c.args.late) refl is.own (record { event = c.args.late.event; time = c.args.late.time; spot = (access_in c.args.late).spot; site = c.in_ok-site.site }) refl refl is.time_is
    n past c.args.self.now.each.items mid c.in_ok-at.at c.in-Some.group.now c.keep.new.self are found at_old c.in_ok-keep.ensures.kept

pub returns-then-len-le-ACCESSES_IN_TURN-clause-sites : goal.returns-then-len-le-ACCESSES_IN_TURN-clause-sites
returns-then-len-le-ACCESSES_IN_TURN-clause-sites c by_variable entries are =
    let mid = c.note.new.self.each.items in
    let found = subst (λ (l : List Group). HasGroupAt c.args.self.now.each.items l c.args.late.thread c.args.late.writes c.in_ok-at.at) (sym c.in_ok-site.ensures.each) c.in_ok-at.ensures.group in
    let at_old = slice_get_read mid (length mid) c.in_ok-at.at c.in-Some.group.now refl (slice_get_within mid c.in_ok-at.at found.group found.there) c.in-Some.ensures.value in
    let same = group_same found.group c.in-Some.group.now (sym found.there ∙ at_old) in
    sites_kept by_variable c.args.variable entries c.note.new.self _ c.in_ok-at.at c.args.late (record { event = c.args.late.event; time = c.args.late.time; spot = (access_in c.args.late).spot; site = c.in_ok-site.site }) c.in-Some.group.now c.replace.new.self refl refl at_old
    (ap (λ (g : Group). g.writes) (sym same) ∙ found.own.writes_is) refl refl c.in_ok-before.ensures.kept c.in_ok-site.ensures.noted
    (c.in_ok-site.ensures.sites by_variable c.args.variable entries (sites_found by_variable c.args.variable entries c.args.self.now c.group_at.new.self c.args.late.thread c.args.late.writes c.in_ok-at.at c.in_ok-at.ensures.sites c.in_ok-at.ensures.group are))

pub returns-clause-sites : goal.returns-clause-sites
returns-clause-sites c by_variable entries are =
    let mid = c.note.new.self.each.items in
    let found = subst (λ (l : List Group). HasGroupAt c.args.self.now.each.items l c.args.late.thread c.args.late.writes c.in_ok-at.at) (sym c.in_ok-site.ensures.each) c.in_ok-at.ensures.group in
    let at_old = slice_get_read mid (length mid) c.in_ok-at.at c.in-Some.group.now refl (slice_get_within mid c.in_ok-at.at found.group found.there) c.in-Some.ensures.value in
    let same = group_same found.group c.in-Some.group.now (sym found.there ∙ at_old) in
    sites_kept by_variable c.args.variable entries c.note.new.self _ c.in_ok-at.at c.args.late (record { event = c.args.late.event; time = c.args.late.time; spot = (access_in c.args.late).spot; site = c.in_ok-site.site }) c.in-Some.group.now c.keep.new.self refl refl at_old
    (ap (λ (g : Group). g.writes) (sym same) ∙ found.own.writes_is) refl refl c.in_ok-keep.ensures.kept c.in_ok-site.ensures.noted
    (c.in_ok-site.ensures.sites by_variable c.args.variable entries (sites_found by_variable c.args.variable entries c.args.self.now c.group_at.new.self c.args.late.thread c.args.late.writes c.in_ok-at.at c.in_ok-at.ensures.sites c.in_ok-at.ensures.group are))
