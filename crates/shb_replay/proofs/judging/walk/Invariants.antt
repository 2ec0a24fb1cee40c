use Rattle.shb_replay.proofs.Words.{IsUnbroken, IsWalked}
use Rattle.shb_replay.proofs.judging.walk.Given as goal

abbrev pub invariant-loop-at : goal.invariant-loop-at
invariant-loop-at l = record {
  walked : IsWalked l.rules.linked.events.now l.rules.linked.sizes l.list l.at l.walked;
  unbroken : IsUnbroken l.rules.linked.events.now l.list l.at;
}
