-- What the orders keep: lists for each number, marks, and the local times at which a thread may learn of others.
use Rattle.std.specs.Prelude.{◌≡◌, ℕ, ◌<◌, List, [], length, slice_index_or, ◌≤◌, ◌↔◌, Bool, true, false, ◌≢◌, Some, Contains}
use Rattle.shb_lines.specs.declared.event.Event.{Event}
use Rattle.shb_lines.specs.events.Order.{BelowPred, IsBelowPredCount, LastWrite, ShbBelow}
use Rattle.std.specs.List.Sorted.{IsStrictlyIncreasing}
use Rattle.shb_lines.specs.declared.event.Op.TheVariants.{Acquire, Join}
use Rattle.shb_lines.specs.events.Events.{thread_at, op_at}
use Rattle.shb_lines.specs.events.Discipline.{local_time}

-- for each of the first n numbers a list that is right for it
pub record AreEach {A : Type 0} (IsRight : ℕ → List A → Type 0) (n : ℕ) (rows : List (List A)) : Type 0 where
  pub as_many : length rows ≡ n
  pub each : (i : ℕ) → i < n → IsRight i (slice_index_or rows i [])

-- for each thread the number of its events that are below the predecessor of e, 0 where the clock has no entry
abbrev pub IsClockBefore : List Event → ℕ → List ℕ → Type 0
IsClockBefore trace e clock = (t : ℕ) → IsBelowPredCount trace t e (slice_index_or clock t 0)

-- from position `low` on, exactly the events that are SHB-below p are marked, and before it none
pub record MarksFrom (trace : List Event) (p low : ℕ) (marks : List Bool) : Type 0 where
  pub as_long : length marks ≡ length trace
  pub exact : (k : ℕ) → low ≤ k → k < length trace → (slice_index_or marks k false ≡ true) ↔ ShbBelow trace k p
  pub none_before : (k : ℕ) → k < low → slice_index_or marks k false ≡ false

-- exactly the events that are SHB-below the predecessor of e are marked
pub record IsRowOf (trace : List Event) (e : ℕ) (marks : List Bool) : Type 0 where
  pub as_long : length marks ≡ length trace
  pub exact : (k : ℕ) → k < length trace → (slice_index_or marks k false ≡ true) ↔ BelowPred trace k e

-- an event by which its thread may learn of others: its first one, an acquire, a join, or a read of a last write
pub data IsLearning (trace : List Event) (e : ℕ) : Type 0 where
  first : (t : ℕ) → thread_at trace e ≡ Some t → ((k : ℕ) → k < e → thread_at trace k ≢ Some t) → IsLearning trace e
  acquires : (l : ℕ) → op_at trace e ≡ Some (Acquire l) → IsLearning trace e
  joins : (u : ℕ) → op_at trace e ≡ Some (Join u) → IsLearning trace e
  reads : (w : ℕ) → LastWrite trace w e → IsLearning trace e

-- thread t may learn at its event of this local time
pub record LearnsAt (trace : List Event) (t time : ℕ) : Type 0 where
  pub event : ℕ
  pub of_thread : thread_at trace event ≡ Some t
  pub learning : IsLearning trace event
  pub time_is : local_time trace t event ≡ time

-- exactly the local times at which thread t may learn, rising
pub record AreLearnedTimes (trace : List Event) (t : ℕ) (times : List ℕ) : Type 0 where
  pub rising : IsStrictlyIncreasing times
  pub all : (time : ℕ) → Contains times time ↔ LearnsAt trace t time
