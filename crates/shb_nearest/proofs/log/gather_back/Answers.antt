use Rattle.std.proofs.Common.{inl, inr, Global, List, Vec, arith, ap, subst, ◌∙◌}
use Rattle.shb_nearest.proofs.Words.{IsInsteadOne, Late}
use Rattle.shb_nearest.proofs.Chains.{gathered_all, gathered_more}
use Rattle.shb_nearest.proofs.log.gather_back.Goals as goal
use Rattle.shb_nearest.proofs.log.gather_back.Goals.{then-not-again+in_ok-push, else-not-again}

pub loop-entry-preserved : goal.loop-entry-preserved
loop-entry-preserved c trace spots x n w = gathered_more trace spots x n c.args.entries.now c.loop-entry.place c.min-place.result c.loop-entry.accesses.items c.if-not-again.accesses.items c.in-Some.entry c.in-Some.ensures
    (λ low. let back = c.min-place.ensures in omega (arith, back, low))
    (elim c.if-not-again.branch [
      | then-not-again+in_ok-push b ↦ inl (ap (λ (v : Vec Late Global). v.items) b.accesses-is ∙ b.in_ok-push.ensures.items)
      | else-not-again b ↦ inr (ap (λ (v : Vec Late Global). v.items) b.accesses-is, subst (λ (l : List Late). IsInsteadOne l c.in-Some.entry.late) c.as_slice.ensures.value (c.in_ok-again.ensures b.if-not-again.false))
    ])
    (c.loop-entry.invariant trace spots x n w)

pub returns : goal.returns
returns c trace spots x n w = gathered_all trace spots x n c.args.entries.now c.loop-entry.place c.loop-entry.accesses.items c.in_default.ensures (c.loop-entry.invariant trace spots x n w)
