-- A count for each thread, raised to how many of its events are below the predecessor of an event.
use Rattle.std.specs.Prelude.{◌≡◌, ℕ, ◌<◌, List, length, max, slice_index_or}
use Rattle.shb_lines.specs.declared.event.Event.{Event}
use Rattle.shb_lines.specs.events.Order.{IsBelowPredCount}

-- the new count is the old one or that of thread t at event e, whichever is more
pub record IsRaisedCount (trace : List Event) (t e old new : ℕ) : Type 0 where
  pub count : ℕ
  pub is : IsBelowPredCount trace t e count
  pub raised : new ≡ max old count

-- the same of each count: they are of the threads from 0 on
pub record AreRaisedCounts (trace : List Event) (e : ℕ) (old new : List ℕ) : Type 0 where
  pub as_long : length new ≡ length old
  pub each : (t : ℕ) → t < length old → IsRaisedCount trace t e (slice_index_or old t 0) (slice_index_or new t 0)
