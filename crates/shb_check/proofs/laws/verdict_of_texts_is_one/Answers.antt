use Rattle.shb_check.proofs.OneVerdict.{one_verdict_of}
use Rattle.shb_check.proofs.laws.verdict_of_texts_is_one.Goals as goal

pub returns : goal.returns
returns c = one_verdict_of
