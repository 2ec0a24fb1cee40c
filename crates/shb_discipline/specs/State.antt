-- What is known of the locks and threads after some events.
use Rattle.std.specs.Prelude.{◌≡◌, ℕ, ◌+◌, ◌<◌, Bool, true, false, cond, List, Option, Some, None, slice_index_or, count_by}
use Rattle.shb_lines.specs.declared.event.Event.{Event}
use Rattle.shb_lines.specs.events.Discipline.{acquires, is_fork, is_join, is_of, releases}
use Rattle.shb_discipline.specs.declared.state.LockState.{LockState}
use Rattle.shb_discipline.specs.declared.state.State.{State}

-- a set of threads acquired the lock as often as it released it, and `depth` times more where the holder is of the set
abbrev pub IsLockAfter : List Event → ℕ → LockState → Type 0
IsLockAfter past l lock = (who : ℕ → Bool) → acquires who l past ≡ releases who l past + cond (who lock.holder) lock.depth 0

-- a lock that no event names
abbrev pub free_lock : LockState
free_lock = record { holder = 0; depth = 0 }

-- each lock is as its state says, and free past the end
abbrev pub AreLocks : List Event → List LockState → Type 0
AreLocks past locks = (l : ℕ) → IsLockAfter past l (slice_index_or locks l free_lock)

-- the flag tells whether any was counted
abbrev pub Tells : Bool → ℕ → Type 0
Tells true n = 0 < n
Tells false n = n ≡ 0

-- each thread's flag, false past the end, tells whether an event passed the test of that thread
abbrev pub AreFlags : (ℕ → Event → Bool) → List Event → List Bool → Type 0
AreFlags test past flags = (t : ℕ) → Tells (slice_index_or flags t false) (count_by (test t) past)

-- the thread of the last event, if there was one: it has begun, and isn't joined
abbrev pub IsGoingOn : List Event → Option ℕ → Type 0
IsGoingOn past None = Unit {0}
IsGoingOn past (Some t) = (0 < count_by (is_of t) past) × (count_by (is_join t) past ≡ 0)

-- what is known of each lock and each thread
pub record IsStateAfter (past : List Event) (state : State) : Type 0 where
  pub locks : AreLocks past state.locks.items
  pub started : AreFlags is_of past state.started.items
  pub forked : AreFlags is_fork past state.forked.items
  pub joined : AreFlags is_join past state.joined.items
  pub last : IsGoingOn past state.last
