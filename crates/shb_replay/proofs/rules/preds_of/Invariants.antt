use Rattle.shb_replay.proofs.Words.{HasPreds, IsLatestTable, OfThread}
use Rattle.shb_replay.proofs.rules.preds_of.Given as goal

abbrev pub invariant-loop-e : goal.invariant-loop-e
invariant-loop-e l = record {
  last : IsLatestTable (OfThread l.linked.events.now) l.e l.linked.sizes.threads l.last.items;
  preds : HasPreds l.linked.events.now l.e l.preds.items;
}
