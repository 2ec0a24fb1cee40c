-- An index is the first one past the limit, by the entries on both sides of it.
use Rattle.std.proofs.Common.{refl, arith}
use Rattle.shb_counts.proofs.FinderLemmas.{first_here}
use Rattle.shb_counts.proofs.finder.is_first.Goals as goal

pub returns : goal.returns
returns c none = first_here c.args.limit c.args.entries.now c.args.from c.args.to c.args.at c.requires (omega (arith, c.if-at-from.false)) (omega (arith, c.if-at-to.false)) (c.if-not-past.ensures refl) (c.none_past_before.ensures none)
