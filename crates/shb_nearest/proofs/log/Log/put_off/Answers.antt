use Rattle.std.proofs.Common.{◌≡◌, ◌∷◌, List, ap, refl, subst, sym, ◌∙◌}
use Rattle.shb_nearest.proofs.Words.{Entry, IsChain, Log}
use Rattle.shb_nearest.proofs.Chains.{late_newer}
use Rattle.shb_nearest.proofs.log.Log.put_off.Goals as goal
use Rattle.shb_nearest.proofs.log.Log.put_off.Goals.{then-thread-late+else-again, else-thread-late}

pub returns-clause-own : goal.returns-clause-own
returns-clause-own c trace spots x w own few = record {
  late = c.args.late ∷ w.late;
  chain = (c.in_ok-place.ensures.put few).longer w.late (subst (λ (l : List Entry). IsChain l c.args.newest w.late) same w.chain);
  are = late_newer trace spots x c.args.late.event 0 w.late c.args.late refl own w.are;
}
  where
    same : c.args.self.now.entries.items ≡ c.if-thread-late.self.entries.items
    same = elim c.if-thread-late.branch [
      | then-thread-late+else-again b ↦ sym (ap (λ (l : Log). l.entries.items) b.self-is ∙ b.replace-again.ensures.same b.if-again.false)
      | else-thread-late b ↦ sym (ap (λ (l : Log). l.entries.items) b.self-is)
    ]
