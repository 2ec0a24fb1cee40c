-- Clocks: for each thread, how many of its events, from its first on, have a property.
use Rattle.std.specs.Prelude.{◌≡◌, ◌≢◌, ℕ, ◌<◌, ◌≤◌, ◌↔◌, List, Some, slice_index_or, count_by}
use Rattle.shb_lines.specs.declared.event.Event.{Event}
use Rattle.shb_lines.specs.declared.event.Op.TheVariants.{Acquire, Release, Join}
use Rattle.shb_lines.specs.events.Events.{thread_at, op_at}
use Rattle.shb_lines.specs.events.Discipline.{is_of, local_time}
use Rattle.shb_lines.specs.events.Order.{LastWrite, ShbBelow}

-- for all threads but u, the events with the property are those whose local time is no higher than their thread's entry
pub record IsFrontBut (trace : List Event) (u : ℕ) (P : ℕ → Type 0) (clock : List ℕ) : Type 0 where
  pub within : (t : ℕ) → t ≢ u → slice_index_or clock t 0 ≤ count_by (is_of t) trace
  pub exact : (t k : ℕ) → thread_at trace k ≡ Some t → t ≢ u → (local_time trace t k ≤ slice_index_or clock t 0) ↔ P k

-- k is below a release of the lock before n
pub record BelowRelease (trace : List Event) (lock n k : ℕ) : Type 0 where
  pub release : ℕ
  pub releases : op_at trace release ≡ Some (Release lock)
  pub earlier : release < n
  pub below : ShbBelow trace k release

-- k is below an event, before n, of the thread
pub record BelowThread (trace : List Event) (thread n k : ℕ) : Type 0 where
  pub event : ℕ
  pub of_thread : thread_at trace event ≡ Some thread
  pub earlier : event < n
  pub below : ShbBelow trace k event

-- k is below the last write of the read e
pub record BelowLastWrite (trace : List Event) (e k : ℕ) : Type 0 where
  pub write : ℕ
  pub last : LastWrite trace write e
  pub below : ShbBelow trace k write

-- k is below e by what e itself learns of other threads: by an acquire, by a join, or by a read of a last write
pub data Learns (trace : List Event) (e k : ℕ) : Type 0 where
  by_acquire : (lock : ℕ) → op_at trace e ≡ Some (Acquire lock) → BelowRelease trace lock e k → Learns trace e k
  by_join : (thread : ℕ) → op_at trace e ≡ Some (Join thread) → BelowThread trace thread e k → Learns trace e k
  by_read : BelowLastWrite trace e k → Learns trace e k
