use Rattle.std.proofs.Common.{◌≡◌, ◌∙◌, List, Some, subst}
use Rattle.std.specs.Prelude.{slice_get}
use Rattle.shb_nearest.proofs.Words.{Group}
use Rattle.shb_nearest.proofs.GroupLemmas.{group_found, group_made}
use Rattle.shb_nearest.proofs.groups.Groups.group_at.Goals as goal

pub returns-in-Some-clause-group : goal.returns-in-Some-clause-group
returns-in-Some-clause-group c =
    let found = c.in-Some.ensures in
    group_found c.args.self.now.each.items c.args.thread c.args.writes c.in-Some.at found.0 (subst (λ (l : List Group). slice_get l c.in-Some.at ≡ Some found.0) c.as_slice.ensures.value found.1) found.2

pub returns-then-found-clause-group : goal.returns-then-found-clause-group
returns-then-found-clause-group c =
    let found = c.is_at-found.ensures c.if-found.true in
    group_found c.args.self.now.each.items c.args.thread c.args.writes c.last-noted.result found.0 (subst (λ (l : List Group). slice_get l c.last-noted.result ≡ Some found.0) c.as_slice-2.ensures.value found.1) found.2

pub returns-clause-group : goal.returns-clause-group
returns-clause-group c = let at = c.len-at.ensures ∙ c.args.self.now.each.ok.0 in group_made c.args.self.now.each.items c.push.new.self.items c.args.thread c.args.writes c.len-at.result _ at c.in_ok-push.ensures.items c.new.ensures.own.thread_is c.new.ensures.own.writes_is c.new.ensures.none
