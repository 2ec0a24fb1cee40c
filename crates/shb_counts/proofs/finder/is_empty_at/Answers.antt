-- A window is empty, by the entries on both sides of it.
use Rattle.std.proofs.Common.{refl, arith}
use Rattle.shb_counts.proofs.FinderLemmas.{empty_here}
use Rattle.shb_counts.proofs.finder.is_empty_at.Goals as goal

pub returns : goal.returns
returns c none = empty_here c.args.entries.now c.args.from c.args.to c.args.at c.args.event c.args.time c.requires (omega (arith, c.if-at-from.false)) (omega (arith, c.if-at-to.false)) (c.if-not-past.ensures refl) (c.none_past_before.ensures none)
