use Rattle.std.proofs.Common.{◌≡◌, ◌<◌, ◌≤◌, true, false, get_or, Some}
use Rattle.shb_orders.proofs.Words.{IsNumberOf, thread_at}
use Rattle.shb_orders.proofs.plain_order.count_marked.Given as goal

abbrev pub invariant-loop-k : goal.invariant-loop-k
invariant-loop-k l = record {
  no_more : l.count ≤ l.k;
  counted : IsNumberOf (λ k. (k < l.k) × ((thread_at l.events k ≡ Some l.t) × (get_or l.row k false ≡ true))) l.count;
}
