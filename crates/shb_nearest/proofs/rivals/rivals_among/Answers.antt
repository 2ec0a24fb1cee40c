use Rattle.std.proofs.Common.{◌+◌, List, [], ◌∷◌, ◌++◌, arith, subst}
use Rattle.shb_nearest.proofs.Words.{All-contains, AreMet, Group, IsGroup, take_all}
use Rattle.shb_nearest.proofs.Members.{member_at, some_at}
use Rattle.shb_nearest.proofs.RivalLemmas.{met_more, rivals_are}
use Rattle.shb_nearest.proofs.rivals.rivals_among.Goals as goal

pub loop-at-preserved : goal.loop-at-preserved
loop-at-preserved c past e spots x next marked are =
    let groups = c.args.groups.now.each.items in
    let more = c.loop-at-test.true in
    let len = c.len-at-end.ensures in
    let long = c.args.groups.now.each.ok.0 in
    let at = some_at groups c.loop-at.at (omega (arith, more, len, long)) in
    met_more (past ++ e ∷ []) spots x c.args.access next.own c.args.groups.now c.args.since c.loop-at.at groups at.0 c.loop-at.rivals.found.items c.meet_group.new.rivals.found.items at.1
    (c.loop-at.invariant past e spots x next marked are)
    (c.in_ok-meet_group.ensures past e spots x at.0 next marked at.1 (All-contains (IsGroup (past ++ e ∷ []) spots x (c.args.access.event + 1)) groups at.0 are.each (member_at groups c.loop-at.at at.0 at.1)))

pub returns : goal.returns
returns c past e spots x next marked are =
    let groups = c.args.groups.now.each.items in
    let done = c.loop-at-test.false in
    let len = c.len-at-end.ensures in
    let long = c.args.groups.now.each.ok.0 in
    rivals_are (past ++ e ∷ []) spots x c.args.access next.own next.disciplined c.args.groups.now c.args.since c.loop-at.rivals.found.items are
    (subst (λ (l : List Group). AreMet (past ++ e ∷ []) spots x c.args.groups.now c.args.access c.args.since l c.loop-at.rivals.found.items) (take_all c.loop-at.at groups (omega (arith, done, len, long))) (c.loop-at.invariant past e spots x next marked are))
