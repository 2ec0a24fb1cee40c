-- Each entry that is looked at leaves less on one side.
use Rattle.std.proofs.Common.{sym, ◌∙◌}
use Rattle.shb_counts.proofs.FinderLemmas.{next_between, none_found, past_found}
use Rattle.shb_counts.proofs.finder.first_past.Goals.{then-is_past, else-is_past}
use Rattle.shb_counts.proofs.finder.first_past.Goals as goal

pub loop-low-preserved : goal.loop-low-preserved
loop-low-preserved c = elim c.if-is_past.branch [
  | then-is_past w ↦ next_between w.low-is w.high-is (past_found _ _ _ _ _ _ c.nearest-at.result _ c.requires c.loop-low.invariant c.nearest-at.ensures.from c.nearest-at.ensures.to (sym c.is_past.ensures ∙ w.if-is_past.true))
  | else-is_past w ↦ next_between w.low-is w.high-is (none_found _ _ _ _ _ _ c.nearest-at.result _ c.requires c.loop-low.invariant c.nearest-at.ensures.from c.nearest-at.ensures.to (sym c.is_past.ensures ∙ w.if-is_past.false))
]
