-- What the tables of links hold, and what the pass over a trace that fills them keeps.
use Rattle.std.specs.Prelude.{◌≡◌, ℕ, ◌<◌, ◌≤◌, Bool, List, Option, Some, None, length, slice_index_or}
use Rattle.shb_lines.specs.declared.event.Event.{Event}
use Rattle.shb_lines.specs.events.Events.{thread_at}
use Rattle.shb_lines.specs.events.Discipline.{local_time}
use Rattle.shb_lines.specs.events.Order.{IsNumberOf}
use Rattle.shb_links.specs.Latest.{ForksThread, IsLatestTable, Latest, OfThread}
use Rattle.shb_links.specs.Sharing.{HasShared}
use Rattle.shb_lines.specs.declared.event.Sizes.{Sizes}
use Rattle.shb_links.specs.declared.pass.LocalTimes.{LocalTimes}

-- a position that has the property, or None exactly where no position has it
abbrev pub Exactly : (ℕ → Type 0) → Option ℕ → Type 0
Exactly P (Some k) = P k
Exactly P None = (k : ℕ) → ¬ P k

-- n is how many events of the thread of the event at e stand at e or before it
abbrev pub IsLocal : List Event → ℕ → ℕ → Type 0
IsLocal trace e n = IsNumberOf (λ k. (k ≤ e) × (thread_at trace k ≡ thread_at trace e)) n

-- the local times, from 1, of the first n events
pub record HasLocals (trace : List Event) (n : ℕ) (locals : List ℕ) : Type 0 where
  pub as_long : length locals ≡ n
  pub each : (e t : ℕ) → e < n → thread_at trace e ≡ Some t → slice_index_or locals e 0 ≡ local_time trace t e

-- the links of the whole trace that are kept: the local times, the forks and the last events of all threads, of which those past a table's end have none, and the flags of the shared variables
pub record HasLinks (trace : List Event) (locals : List ℕ) (forks last : List (Option ℕ)) (shared : List Bool) : Type 0 where
  pub times : HasLocals trace (length trace) locals
  pub forked : (t : ℕ) → Exactly (ForksThread trace t) (slice_index_or forks t None)
  pub ended : (t : ℕ) → Latest (OfThread trace t) (length trace) (slice_index_or last t None)
  pub sharing : HasShared trace shared

-- the local time of each event, and the last event and the fork of each thread
pub record AreLocalTimes (trace : List Event) (n : ℕ) (sizes : Sizes) (found : LocalTimes) : Type 0 where
  pub locals : HasLocals trace n found.locals.items
  pub last : IsLatestTable (OfThread trace) n sizes.threads found.last.items
  pub forks : IsLatestTable (ForksThread trace) n sizes.threads found.forks.items
