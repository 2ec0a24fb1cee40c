use Rattle.std.proofs.Common.{List, subst, sym}
use Rattle.shb_nearest.proofs.Words.{AreLate, AreWaiting, Entry, Late}
use Rattle.shb_nearest.proofs.log.Log.gather.Goals as goal

pub returns-clause-gathered : goal.returns-clause-gathered
returns-clause-gathered c trace spots x n w = subst (λ (l : List Late). AreLate trace spots x n 0 l) (sym c.reverse.ensures.items)
    (c.in_ok-gather_back.ensures trace spots x n (subst (λ (l : List Entry). AreWaiting trace spots x n l c.args.newest) (sym c.as_slice.ensures.value) w))
