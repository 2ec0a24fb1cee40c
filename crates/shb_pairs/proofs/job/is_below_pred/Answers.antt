use Rattle.std.proofs.Common.{◌≡◌, ℕ, List, Some, subst}
use Rattle.shb_lines.proofs.events.Prefix.{below_pred_test}
use Rattle.shb_pairs.proofs.Words.{Event}
use Rattle.shb_lines.specs.events.Discipline.{local_time}
use Rattle.shb_lines.specs.events.Events.{thread_at}
use Rattle.shb_pairs.proofs.job.is_below_pred.Goals as goal

-- an event is below the predecessor exactly where its local time is no higher than the order's answer
pub returns : goal.returns
returns g c =
    let time = subst (λ (tr : List Event). (t : ℕ) → thread_at tr c.args.first ≡ Some t → c.local.result ≡ local_time tr t c.args.first) c.args.ordered.now.linked c.local.ensures.time in
    below_pred_test _ _ _ _ _ _ _ c.args.ordered.now.of_trace c.below_pred.ensures c.thread-thread.ensures (time _ c.thread-thread.ensures)
