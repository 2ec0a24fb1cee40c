-- How far each thread is below the predecessors of a pair of events.
use Rattle.std.specs.Prelude.{◌≡◌, ℕ, ◌<◌, ◌≤◌, ◌⊎◌, ◌↔◌, Contains, List, Some, length, slice_index_or}
use Rattle.std.specs.List.Sorted.{IsStrictlyIncreasing}
use Rattle.shb_lines.specs.declared.event.Event.{Event}
use Rattle.shb_lines.specs.events.Events.{thread_at}
use Rattle.shb_lines.specs.events.Discipline.{local_time}
use Rattle.shb_lines.specs.events.Order.{BelowPred}

-- a is SHB-below the predecessor of i or of j
abbrev pub BelowEither : List Event → ℕ → ℕ → ℕ → Type 0
BelowEither trace i j a = BelowPred trace a i ⊎ BelowPred trace a j

-- the events of thread t that are below either predecessor are those with a local time up to the cut
abbrev pub IsCut : List Event → ℕ → ℕ → ℕ → ℕ → Type 0
IsCut trace i j t cut = (k : ℕ) → thread_at trace k ≡ Some t → (local_time trace t k ≤ cut) ↔ BelowEither trace i j k

-- the cuts of the first n threads
pub record HasCuts (trace : List Event) (i j n : ℕ) (cuts : List ℕ) : Type 0 where
  pub as_long : length cuts ≡ n
  pub each : (t : ℕ) → t < n → IsCut trace i j t (slice_index_or cuts t 0)

-- the event at k has a local time up to the cut of its thread
pub record IsWithinCuts (trace : List Event) (cuts : List ℕ) (k : ℕ) : Type 0 where
  pub thread : ℕ
  pub of : thread_at trace k ≡ Some thread
  pub within : local_time trace thread k ≤ slice_index_or cuts thread 0

-- the positions of all these events, rising
pub record AreWithinCuts (trace : List Event) (cuts s : List ℕ) : Type 0 where
  pub rising : IsStrictlyIncreasing s
  pub members : (k : ℕ) → Contains s k ↔ IsWithinCuts trace cuts k

-- each event before n is within the cuts
abbrev pub Reach : List Event → ℕ → List ℕ → Type 0
Reach trace n cuts = (k t : ℕ) → k < n → thread_at trace k ≡ Some t → local_time trace t k ≤ slice_index_or cuts t 0

-- each event within the cuts comes before n
abbrev pub EndsBefore : List Event → ℕ → List ℕ → Type 0
EndsBefore trace n cuts = (k : ℕ) → IsWithinCuts trace cuts k → k < n

-- each event is of a thread below n
abbrev pub AreOfThreads : List Event → ℕ → Type 0
AreOfThreads trace n = (k t : ℕ) → thread_at trace k ≡ Some t → t < n

-- the event at k is within the cuts, not before front, and of a thread below n
pub record IsRest (trace : List Event) (cuts : List ℕ) (front n k : ℕ) : Type 0 where
  pub is : IsWithinCuts trace cuts k
  pub from : front ≤ k
  pub low : is.thread < n
