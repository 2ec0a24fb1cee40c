use Rattle.shb_replay.proofs.Law.{reordering, unbroken}
use Rattle.shb_replay.proofs.laws.unbroken_lists_are_reorderings.Goals as goal

pub returns : goal.returns
returns c = λ trace s disciplined. (reordering trace disciplined s, unbroken trace disciplined s)
