use Rattle.std.proofs.Common.{List, refl, subst}
use Rattle.shb_nearest.proofs.Words.{IsSite, Site, slice_get_within}
use Rattle.shb_nearest.proofs.Members.{read_at}
use Rattle.shb_nearest.proofs.SiteLemmas.{pair_after, pair_known, pair_long, pair_stay}
use Rattle.shb_nearest.proofs.sites.Sites.pair.Goals as goal

pub returns-in_ok-insert-clause-after : goal.returns-in_ok-insert-clause-after
returns-in_ok-insert-clause-after c =
    let all = c.args.self.now.all.items in
    let at = c.args.self.now.own in
    let own = c.in-Some-get_mut.own.now in
    let second = subst (λ (l : List Site). IsSite l c.args.second c.args.self.now.own) c.as_slice.ensures.value (c.is_at-found.ensures c.if-not-found.false) in
    let there = read_at all all at own refl (slice_get_within all at second.site second.there) c.in-Some-get_mut.ensures.value in
    pair_after c.args.self.now _ (pair_stay all at c.in-Some.number c.args.first c.args.second own there second c.in-Some.ensures c.insert.new.self c.in_ok-insert.ensures.inserted) (pair_long all at c.in-Some.number c.args.first c.args.second own there second c.in-Some.ensures c.insert.new.self c.in_ok-insert.ensures.inserted) refl refl refl

pub returns-in_ok-insert-clause-paired : goal.returns-in_ok-insert-clause-paired
returns-in_ok-insert-clause-paired c =
    let all = c.args.self.now.all.items in
    let at = c.args.self.now.own in
    let own = c.in-Some-get_mut.own.now in
    let second = subst (λ (l : List Site). IsSite l c.args.second c.args.self.now.own) c.as_slice.ensures.value (c.is_at-found.ensures c.if-not-found.false) in
    let there = read_at all all at own refl (slice_get_within all at second.site second.there) c.in-Some-get_mut.ensures.value in
    pair_known all at c.in-Some.number c.args.first c.args.second own there second c.in-Some.ensures c.insert.new.self c.in_ok-insert.ensures.inserted
