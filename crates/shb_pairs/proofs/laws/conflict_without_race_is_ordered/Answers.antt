use Rattle.shb_pairs.proofs.Unlisted.{below_without_race}
use Rattle.shb_pairs.proofs.laws.conflict_without_race_is_ordered.Goals as goal

pub returns : goal.returns
returns c = below_without_race
