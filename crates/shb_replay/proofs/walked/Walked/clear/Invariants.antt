use Rattle.shb_replay.proofs.Words.{IsLeft}
use Rattle.shb_replay.proofs.walked.Walked.clear.Given as goal

abbrev pub invariant-loop-at : goal.invariant-loop-at
invariant-loop-at l = IsLeft l.linked.events.now l.linked.sizes l.list l.at l.end l.self
