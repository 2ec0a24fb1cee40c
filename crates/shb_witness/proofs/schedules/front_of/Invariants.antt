use Rattle.std.proofs.Common.{◌≡◌, ◌<◌, ◌≤◌, ℕ, Some, length, get_or}
use Rattle.shb_witness.proofs.Words.{local_time, thread_at}
use Rattle.shb_witness.proofs.schedules.front_of.Given as goal

abbrev pub invariant-loop-thread : goal.invariant-loop-thread
invariant-loop-thread l = record {
  within : l.front ≤ length l.fn.threads;
  before : (k t : ℕ) → k < l.front → t < l.thread → thread_at l.fn.threads k ≡ Some t → local_time l.fn.threads t k ≤ get_or l.fn.cuts t 0;
}
