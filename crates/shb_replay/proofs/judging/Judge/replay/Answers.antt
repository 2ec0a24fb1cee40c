use Rattle.shb_replay.proofs.Words.{common_steps}
use Rattle.std.proofs.Common.{arith}
use Rattle.shb_replay.proofs.Lowest.{answer_none}
use Rattle.shb_replay.proofs.judging.Judge.replay.Goals as goal

pub returns-clause-schedule : goal.returns-clause-schedule
returns-clause-schedule c = grind (arith, common_steps, c.self.view_is, answer_none, c.walk-answer.ensures.answer)
