use Rattle.std.proofs.Common.{◌≡◌, ◌<◌, ◌≤◌, ℕ, Some, length, get_or}
use Rattle.shb_witness.proofs.Words.{local_time, thread_at}
use Rattle.shb_witness.proofs.schedules.end_of.Given as goal

abbrev pub invariant-loop-thread : goal.invariant-loop-thread
invariant-loop-thread l = record {
  within : l.end ≤ length l.fn.threads;
  above : (k t : ℕ) → t < l.thread → thread_at l.fn.threads k ≡ Some t → local_time l.fn.threads t k ≤ get_or l.fn.cuts t 0 → k < l.end;
}
