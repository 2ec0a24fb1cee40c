use Rattle.shb_replay.proofs.OneAnswer.{one_answer}
use Rattle.shb_replay.proofs.laws.answer_is_one.Goals as goal

pub returns : goal.returns
returns c = one_answer
