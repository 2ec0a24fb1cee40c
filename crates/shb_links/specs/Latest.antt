-- The latest position before n that has a property.
use Rattle.std.specs.Prelude.{◌≡◌, ℕ, ◌<◌, List, Option, Some, None, length, slice_index_or}
use Rattle.shb_lines.specs.declared.event.Event.{Event}
use Rattle.shb_lines.specs.declared.event.Op.TheVariants.{Write, Release, Fork}
use Rattle.shb_lines.specs.events.Events.{thread_at, op_at}

-- k is the latest position before n that has the property
pub record IsLatestBefore (P : ℕ → Type 0) (n k : ℕ) : Type 0 where
  pub earlier : k < n
  pub holds : P k
  pub last : (m : ℕ) → k < m → m < n → ¬ P m

-- the latest position before n that has the property, or None exactly where there is none
abbrev pub Latest : (ℕ → Type 0) → ℕ → Option ℕ → Type 0
Latest P n (Some k) = IsLatestBefore P n k
Latest P n None = (k : ℕ) → k < n → ¬ P k

-- the table holds, for each number t below its size, the latest position before n that has P t
pub record IsLatestTable (P : ℕ → ℕ → Type 0) (n size : ℕ) (table : List (Option ℕ)) : Type 0 where
  pub as_long : length table ≡ size
  pub each : (t : ℕ) → t < size → Latest (P t) n (slice_index_or table t None)

-- the event at k is of thread t
abbrev pub OfThread : List Event → ℕ → ℕ → Type 0
OfThread trace t k = thread_at trace k ≡ Some t

-- the event at k writes the variable x
abbrev pub WritesVariable : List Event → ℕ → ℕ → Type 0
WritesVariable trace x k = op_at trace k ≡ Some (Write x)

-- the event at k forks thread t
abbrev pub ForksThread : List Event → ℕ → ℕ → Type 0
ForksThread trace t k = op_at trace k ≡ Some (Fork t)

-- the event at k releases the lock l
abbrev pub ReleasesLock : List Event → ℕ → ℕ → Type 0
ReleasesLock trace l k = op_at trace k ≡ Some (Release l)
