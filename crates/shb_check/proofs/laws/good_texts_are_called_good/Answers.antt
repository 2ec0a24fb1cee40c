use Rattle.shb_check.proofs.OneVerdict.{good_of}
use Rattle.shb_check.proofs.laws.good_texts_are_called_good.Goals as goal

pub returns : goal.returns
returns c = good_of
