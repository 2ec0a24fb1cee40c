-- What is kept of the order of a trace before one of its events, or after those of a stream.
use Rattle.std.specs.Prelude.{◌≡◌, ℕ, ◌+◌, ◌<◌, ◌≤◌, ◌⊎◌, ◌^◌, Bool, true, List, [], Some, length, max, slice_index_or, take, count_by}
use Rattle.shb_lines.specs.Growing.{IsPut}
use Rattle.shb_lines.specs.declared.event.Event.{Event}
use Rattle.shb_lines.specs.declared.event.Op.{Op}
use Rattle.shb_lines.specs.declared.event.Op.TheVariants.{Join, Write}
use Rattle.shb_lines.specs.events.Discipline.{IsDisciplined, is_of, local_time}
use Rattle.shb_lines.specs.events.Events.{op_at, thread_at}
use Rattle.shb_links.specs.Latest.{ReleasesLock}
use Rattle.shb_links.specs.Sharing.{IsShared}
use Rattle.shb_stamps.specs.Stamps.{AreMore, IsKnown, IsLatestStamp, IsRowFor, KnowsStamp, empty_stamp}
use Rattle.shb_stamps.specs.declared.clocks.AfterSource.{AfterSource}
use Rattle.shb_stamps.specs.declared.clocks.Clocks.{Clocks}
use Rattle.shb_stamps.specs.declared.stamp.Stamp.{Stamp}
use Rattle.shb_stamps.specs.declared.stream_clocks.StreamClocks.{StreamClocks}

-- the event at k writes the variable x, of which each write is kept, or each if it is shared
abbrev pub KeepsWrite : Bool → List Event → ℕ → ℕ → Type 0
KeepsWrite all trace x k = ((all ≡ true) ⊎ IsShared trace x) × (op_at trace k ≡ Some (Write x))

-- before event n: for each thread the row of what it knows, for each lock the stamp of its last release, and for each variable that of its last write that is kept; past the end of a table the row that knows nothing, and a stamp of no event
pub record AreClocks (trace : List Event) (n : ℕ) (all : Bool) (rows : List (List ℕ)) (current : List ℕ) (locks variables : List Stamp) : Type 0 where
  pub some : 0 < length rows
  pub few : length rows ≤ n + 1
  pub current_are : (t : ℕ) → IsRowFor trace rows t (IsKnown trace t n) (slice_index_or current t 0)
  pub locks_are : (l : ℕ) → IsLatestStamp trace rows (ReleasesLock trace l) n (slice_index_or locks l empty_stamp)
  pub variables_are : (x : ℕ) → IsLatestStamp trace rows (KeepsWrite all trace x) n (slice_index_or variables x empty_stamp)

-- the clocks before event n
abbrev pub IsBefore : List Event → ℕ → Bool → Clocks → Type 0
IsBefore trace n all clocks = AreClocks trace n all clocks.rows.list clocks.current.items clocks.locks.items clocks.variables.items

-- event n of a disciplined trace is of this thread, has this local time and does this; where it joins a thread, that one had so many events
pub record IsNext (trace : List Event) (n thread : ℕ) (op : Op) (time joined : ℕ) : Type 0 where
  pub disciplined : IsDisciplined trace
  pub few : n + 1 < 2 ^ 32
  pub of_thread : thread_at trace n ≡ Some thread
  pub does : op_at trace n ≡ Some op
  pub time_is : time ≡ local_time trace thread n
  pub joined_is : (t : ℕ) → op ≡ Join t → joined ≡ count_by (is_of t) (take n trace)

-- a row has each event of a thread before that of this time, and there is one
pub record Covers (row : List ℕ) (thread time : ℕ) : Type 0 where
  pub some : 1 < time
  pub all : time ≤ slice_index_or row thread 0 + 1

-- each entry of a row is the greater of those of the row before and of the source's clock, or the row is this clock, if the source's row has each event of the thread so far
pub record IsJoined (rows : List (List ℕ)) (thread time before : ℕ) (source : Stamp) (row : List ℕ) : Type 0 where
  pub clock : List ℕ
  pub clock_is : IsPut 0 source.thread source.time (slice_index_or rows source.row []) clock
  pub each : ((t : ℕ) → slice_index_or row t 0 ≡ max (slice_index_or (slice_index_or rows before []) t 0) (slice_index_or clock t 0)) ⊎ (Covers (slice_index_or rows source.row []) thread time × (row ≡ clock))

-- the rows stay, and one more is added at most; a thread that knew the source has the row before, and another one has a joined row; it renames the source only where it is the source's clock
pub record HasRowAfter (old new : List (List ℕ)) (thread time before : ℕ) (source : Stamp) (after : AfterSource) : Type 0 where
  pub more : AreMore old new
  pub few : length new ≤ length old + 1
  pub knew : KnowsStamp (slice_index_or old before []) thread source → after.row ≡ before
  pub learned : (KnowsStamp (slice_index_or old before []) thread source → ⊥) → length old < 2 ^ 32 → source.row < length old → (after.row < length new) × IsJoined old thread time before source (slice_index_or new after.row [])
  pub renames : after.renames ≡ true → length old < 2 ^ 32 → (after.row < length new) × IsPut 0 source.thread source.time (slice_index_or old source.row []) (slice_index_or new after.row [])

-- the clocks are those after these events, and so are the numbers of each thread's events
pub record IsStreamed (past : List Event) (stream : StreamClocks) : Type 0 where
  pub clocks : IsBefore past (length past) true stream.clocks
  pub times : (t : ℕ) → slice_index_or stream.times.items t 0 ≡ count_by (is_of t) past

-- the trace, and the number of the next event
pub record SweepData : Type 0 where
  pub trace : List Event
  pub next : ℕ
