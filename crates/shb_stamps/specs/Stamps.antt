-- What rows and stamps mean: a row is a clock, and a stamp names one and an event.
use Rattle.std.specs.Prelude.{◌≡◌, ℕ, ◌<◌, ◌≤◌, ◌⊎◌, ◌↔◌, List, [], Some, length, slice_index_or}
use Rattle.shb_lines.specs.declared.event.Event.{Event}
use Rattle.shb_lines.specs.declared.event.Op.TheVariants.{Fork}
use Rattle.shb_lines.specs.events.Events.{thread_at, op_at}
use Rattle.shb_lines.specs.events.Discipline.{local_time}
use Rattle.shb_lines.specs.events.Order.{ShbBelow, BelowPred}
use Rattle.shb_links.specs.Latest.{IsLatestBefore}
use Rattle.shb_stamps.specs.Fronts.{Learns, IsFrontBut}
use Rattle.shb_stamps.specs.declared.stamp.Stamp.{Stamp}

-- rows that stay as they are, with more after them
pub record AreMore (rows more : List (List ℕ)) : Type 0 where
  pub as_long : length rows ≤ length more
  pub same : (i : ℕ) → i < length rows → slice_index_or more i [] ≡ slice_index_or rows i []

-- but for the entry of thread t, the row of this number is the clock of the events with the property
pub record IsRowFor (trace : List Event) (rows : List (List ℕ)) (t : ℕ) (P : ℕ → Type 0) (row : ℕ) : Type 0 where
  pub in_range : row < length rows
  pub front : IsFrontBut trace t P (slice_index_or rows row [])

-- k is below an event of thread t, or below its fork, among the first n events
pub record IsKnown (trace : List Event) (t n k : ℕ) : Type 0 where
  pub event : ℕ
  pub earlier : event < n
  pub of_or_forks : (thread_at trace event ≡ Some t) ⊎ (op_at trace event ≡ Some (Fork t))
  pub below : ShbBelow trace k event

-- the stamp of an event: its row, with the entry of its thread set to its local time, is the event's clock
pub record IsStampOf (trace : List Event) (rows : List (List ℕ)) (e : ℕ) (stamp : Stamp) : Type 0 where
  pub of_thread : thread_at trace e ≡ Some stamp.thread
  pub time_is : stamp.time ≡ local_time trace stamp.thread e
  pub row_is : IsRowFor trace rows stamp.thread (λ k. ShbBelow trace k e) stamp.row

-- the stamp of the latest event before n that has the property, or an empty one where there is none
pub data IsLatestStamp (trace : List Event) (rows : List (List ℕ)) (P : ℕ → Type 0) (n : ℕ) (stamp : Stamp) : Type 0 where
  of_event : (e : ℕ) → IsLatestBefore P n e → IsStampOf trace rows e stamp → IsLatestStamp trace rows P n stamp
  of_none : ((k : ℕ) → k < n → ¬ P k) → stamp.time ≡ 0 → IsLatestStamp trace rows P n stamp

-- thread t, which knows this row but for its own entry, knows the event of the stamp, or the stamp is of no event
abbrev pub KnowsStamp : List ℕ → ℕ → Stamp → Type 0
KnowsStamp row t stamp = (stamp.thread ≡ t) ⊎ (stamp.time ≤ slice_index_or row stamp.thread 0)

abbrev pub empty_stamp : Stamp
empty_stamp = record { row = 0; thread = 0; time = 0 }

-- the stamp of all that e learns of other threads: an earlier event's, or an empty one where its predecessor is after all of that
pub data IsSource (trace : List Event) (rows : List (List ℕ)) (e : ℕ) (stamp : Stamp) : Type 0 where
  from_event : (r : ℕ) → r < e → IsStampOf trace rows r stamp → ((k : ℕ) → ShbBelow trace k r ↔ Learns trace e k) → IsSource trace rows e stamp
  nothing_new : ((k : ℕ) → Learns trace e k → BelowPred trace k e) → stamp.time ≡ 0 → IsSource trace rows e stamp
