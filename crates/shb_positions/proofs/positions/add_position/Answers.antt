use Rattle.std.proofs.lemmas.Grind.{common_steps}
use Rattle.std.proofs.Common.{arith}
use Rattle.shb_positions.proofs.RunLemmas.{all_kept, more_apart}
use Rattle.shb_positions.proofs.positions.add_position.Goals as goal

pub returns-clause-apart : goal.returns-clause-apart
returns-clause-apart c = grind (arith, common_steps, c.if-extend_last.ensures.gap, c.if-extend_last.ensures.kept, all_kept, c.as_mut_slice.ensures.value, c.in_ok-push.ensures.items, more_apart, c.requires.apart)
