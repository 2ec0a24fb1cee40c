use Rattle.std.proofs.Common.{List, [], ◌∷◌, ◌++◌, subst, sym}
use Rattle.shb_nearest.proofs.Words.{AreRivals, FoundAccess}
use Rattle.shb_nearest.proofs.RivalLemmas.{met_all, no_rivals, rivals_are}
use Rattle.shb_nearest.proofs.rivals.Rivals.find.Goals as goal

pub returns-then-alone : goal.returns-then-alone
returns-then-alone c past e spots x next marked groups is_run =
    let alone = c.is_alone-alone.ensures c.if-alone.true in
    subst (λ (l : List FoundAccess). AreRivals (past ++ e ∷ []) spots x c.args.groups.now c.args.access c.args.since l) (sym c.clear.ensures.items) (no_rivals (past ++ e ∷ []) spots x c.args.access next.own c.args.run c.args.groups.now c.args.since alone.0 alone.1 is_run)

pub returns-then-done : goal.returns-then-done
returns-then-done c past e spots x next marked groups is_run =
    let all = c.args.groups.now in
    let done = c.are_done-done.ensures.writes c.if-done.true in
    subst (λ (l : List FoundAccess). AreRivals (past ++ e ∷ []) spots x c.args.groups.now c.args.access c.args.since l) (sym c.clear.ensures.items)
    (rivals_are (past ++ e ∷ []) spots x c.args.access next.own next.disciplined all c.args.since [] groups
    (met_all (past ++ e ∷ []) spots x c.args.access next.own all c.args.since _ _ marked groups done.0 done.1 done.2 (c.are_done-done.ensures.reads c.if-done.true)))
