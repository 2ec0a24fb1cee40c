use Rattle.std.proofs.Common.{◌+◌, ℕ, [], ◌∷◌, ◌++◌, length, refl, subst, sym}
use Rattle.shb_nearest.proofs.Words.{CanRace, Group, HasMetGroup, IsBelowPredCount, IsGroup, slice_get_read}
use Rattle.shb_nearest.proofs.Members.{one_at}
use Rattle.shb_nearest.proofs.RivalLemmas.{group_before, met_done, met_none, met_some}
use Rattle.shb_nearest.proofs.rivals.meet_group.Goals as goal

pub returns-then-not-met : goal.returns-then-not-met
returns-then-not-met c past e spots x group next marked there is =
    let each = c.args.groups.now.each.items in
    let read = slice_get_read each (length each) c.args.at c.index-group.result.now refl c.requires.there c.index-group.ensures in
    let same = one_at each c.args.at c.index-group.result.now group read there in
    met_none (past ++ e ∷ []) spots x c.args.access next.own group is c.args.groups.now c.args.since c.args.rivals.now.found.items
    (λ can. c.can_race-met.ensures.cannot c.if-not-met.true (subst (λ (g : Group). CanRace g c.args.access) (sym same) can))

pub returns-then-done : goal.returns-then-done
returns-then-done c past e spots x group next marked there is =
    let done = c.is_done-done.ensures c.if-done.true in
    met_done (past ++ e ∷ []) spots x c.args.access next.own c.args.groups.now c.args.at c.args.since group c.args.rivals.now.found.items marked there done.0 done.1 done.2

pub returns : goal.returns
returns c past e spots x group next marked there is =
    let each = c.args.groups.now.each.items in
    let read = slice_get_read each (length each) c.args.at c.index-group.result.now refl c.requires.there c.index-group.ensures in
    let same = one_at each c.args.at c.index-group.result.now group read there in
    let own = c.index-group.result.now in
    let count = c.below_next-below.ensures past e next.thread_is next.disciplined next.streamed in
    let can = c.can_race-met.ensures.can c.if-not-met.false in
    subst (λ (g : Group). HasMetGroup (past ++ e ∷ []) spots x c.args.groups.now c.args.access c.args.since g c.args.rivals.now.found.items c.meet.new.rivals.found.items) same
    (met_some (past ++ e ∷ []) spots x c.args.access next.own own (group_before (past ++ e ∷ []) spots x c.args.access next.own own can.other (subst (λ (g : Group). IsGroup (past ++ e ∷ []) spots x (c.args.access.event + 1) g) (sym same) is)) c.below_next-below.result
    (subst (λ (n : ℕ). IsBelowPredCount (past ++ e ∷ []) c.index-group.result.now.thread n c.below_next-below.result) (sym next.event_is) count)
    c.args.groups.now c.args.since c.args.rivals.now.found.items c.meet.new.rivals.found.items can c.in_ok-meet.ensures)
