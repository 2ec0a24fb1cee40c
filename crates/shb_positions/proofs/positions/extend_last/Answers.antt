use Rattle.std.proofs.lemmas.Grind.{common_steps}
use Rattle.std.proofs.Common.{arith}
use Rattle.shb_positions.proofs.RunLemmas.{last_leaves_gap, longer_apart, longer_last}
use Rattle.shb_positions.proofs.positions.extend_last.Goals as goal

pub returns-clause-added : goal.returns-clause-added
returns-clause-added c = grind (arith, common_steps, c.in-Some.ensures.item, longer_last, c.if-first-len.false)

pub returns-then-first-len-clause-gap : goal.returns-then-first-len-clause-gap
returns-then-first-len-clause-gap c = grind (arith, common_steps, c.in-Some.ensures.item, last_leaves_gap, c.if-first-len.true)

pub returns-clause-apart : goal.returns-clause-apart
returns-clause-apart c = grind (arith, common_steps, c.in-Some.ensures.item, longer_apart, c.requires.apart)
