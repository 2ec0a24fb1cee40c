use Rattle.shb_replay.proofs.Origins.{preds_more}
use Rattle.shb_replay.proofs.rules.preds_of.Goals as goal

pub loop-e-preserved : goal.loop-e-preserved
loop-e-preserved c = record {
  last = c.note_thread.ensures;
  preds = rw c.in_ok-push.ensures.items (preds_more c.args.linked.now.events.now c.loop-e.e c.loop-e.preds.items c.pred_of.result c.pred_of.ensures c.loop-e.invariant.preds);
}
