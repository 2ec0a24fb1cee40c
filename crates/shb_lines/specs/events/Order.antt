-- Happens-before, and schedulable happens-before: edges and paths between positions of a trace.
use Rattle.std.specs.Prelude.{◌≡◌, ◌≢◌, ℕ, ◌<◌, ◌↔◌, List, Some, length, Contains}
use Rattle.std.specs.List.Sorted.{IsStrictlyIncreasing}
use Rattle.shb_lines.specs.declared.event.Event.{Event}
use Rattle.shb_lines.specs.declared.event.Op.TheVariants.{Read, Write, Acquire, Release, Fork, Join}
use Rattle.shb_lines.specs.events.Events.{thread_at, op_at}

-- why an earlier event happens before a later one
pub data HbRule (trace : List Event) (a b : ℕ) : Type 0 where
  same_thread : (t : ℕ) → thread_at trace a ≡ Some t → thread_at trace b ≡ Some t → HbRule trace a b
  lock_passed : (l : ℕ) → op_at trace a ≡ Some (Release l) → op_at trace b ≡ Some (Acquire l) → HbRule trace a b
  forked : (u : ℕ) → op_at trace a ≡ Some (Fork u) → thread_at trace b ≡ Some u → HbRule trace a b
  joined : (u : ℕ) → thread_at trace a ≡ Some u → op_at trace b ≡ Some (Join u) → HbRule trace a b

pub record HbEdge (trace : List Event) (a b : ℕ) : Type 0 where
  pub earlier : a < b
  pub rule : HbRule trace a b

-- w is the latest write before the read r of its variable, by any thread
pub record LastWrite (trace : List Event) (w r : ℕ) : Type 0 where
  pub variable : ℕ
  pub reads : op_at trace r ≡ Some (Read variable)
  pub writes : op_at trace w ≡ Some (Write variable)
  pub earlier : w < r
  pub latest : (k : ℕ) → w < k → k < r → op_at trace k ≢ Some (Write variable)

pub data ShbEdge (trace : List Event) (a b : ℕ) : Type 0 where
  happens_before : HbEdge trace a b → ShbEdge trace a b
  read_from : LastWrite trace a b → ShbEdge trace a b

-- a path of edges, possibly empty
pub data Path (Edge : ℕ → ℕ → Type 0) : ℕ → ℕ → Type 0 where
  here : {a : ℕ} → Path Edge a a
  step : {a b c : ℕ} → Edge a b → Path Edge b c → Path Edge a c

abbrev pub HbBelow : List Event → ℕ → ℕ → Type 0
HbBelow trace a b = Path (HbEdge trace) a b

abbrev pub ShbBelow : List Event → ℕ → ℕ → Type 0
ShbBelow trace a b = Path (ShbEdge trace) a b

-- p is the predecessor of e: the event before e in its thread or, for a thread's first event, its fork
pub data IsPred (trace : List Event) (p e : ℕ) : Type 0 where
  in_thread : (t : ℕ) → thread_at trace p ≡ Some t → thread_at trace e ≡ Some t → p < e → ((k : ℕ) → p < k → k < e → thread_at trace k ≢ Some t) → IsPred trace p e
  by_fork : (t : ℕ) → op_at trace p ≡ Some (Fork t) → thread_at trace e ≡ Some t → ((k : ℕ) → k < e → thread_at trace k ≢ Some t) → IsPred trace p e

-- a is SHB-below the predecessor of e, if e has one
abbrev pub BelowPred : List Event → ℕ → ℕ → Type 0
BelowPred trace a e = (p : ℕ) × IsPred trace p e × ShbBelow trace a p

-- n is how many numbers have the property
pub record IsNumberOf (P : ℕ → Type 0) (n : ℕ) : Type 0 where
  pub members : List ℕ
  pub rising : IsStrictlyIncreasing members
  pub all : (k : ℕ) → Contains members k ↔ P k
  pub number : length members ≡ n

-- n is how many events of thread t are SHB-below the predecessor of e
abbrev pub IsBelowPredCount : List Event → ℕ → ℕ → ℕ → Type 0
IsBelowPredCount trace t e n = IsNumberOf (λ k. (thread_at trace k ≡ Some t) × BelowPred trace k e) n
