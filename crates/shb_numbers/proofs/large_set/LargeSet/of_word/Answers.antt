use Rattle.std.proofs.Common.{◌∙◌, ap, length}
use Rattle.shb_numbers.proofs.FarLemmas.{only_near}
use Rattle.shb_numbers.proofs.large_set.LargeSet.of_word.Goals as goal

pub returns : goal.returns
returns c = only_near _ _ (ap length c.new.ensures.items) ∙ c.of_word.ensures
