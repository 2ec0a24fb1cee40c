-- The discipline of locks, forks and joins, by counts over the events before each event.
use Rattle.std.specs.Prelude.{not, ◌≡◌, ◌≢◌, ◌==◌, ℕ, ◌+◌, ◌<◌, Bool, true, false, ◌&&◌, List, Some, slice_get, count_by, take}
use Rattle.shb_lines.specs.declared.event.Event.{Event}
use Rattle.shb_lines.specs.declared.event.Op.{Op}
use Rattle.shb_lines.specs.declared.event.Op.TheVariants.{Acquire, Release, Fork, Join}

-- sets of threads, as tests
abbrev pub other_than : ℕ → ℕ → Bool
other_than t u = not (t == u)

abbrev pub only : ℕ → ℕ → Bool
only t u = t == u

-- whether an operation acquires or releases this lock, forks or joins this thread
abbrev pub op_is_acquire : ℕ → Op → Bool
op_is_acquire l (Acquire m) = l == m
op_is_acquire l _ = false

abbrev pub op_is_release : ℕ → Op → Bool
op_is_release l (Release m) = l == m
op_is_release l _ = false

abbrev pub op_is_fork : ℕ → Op → Bool
op_is_fork u (Fork v) = u == v
op_is_fork u _ = false

abbrev pub op_is_join : ℕ → Op → Bool
op_is_join u (Join v) = u == v
op_is_join u _ = false

-- the tests that are counted
unfoldable pub is_acquire : (ℕ → Bool) → ℕ → Event → Bool
is_acquire who l e = who e.thread && op_is_acquire l e.op

unfoldable pub is_release : (ℕ → Bool) → ℕ → Event → Bool
is_release who l e = who e.thread && op_is_release l e.op

unfoldable pub is_of : ℕ → Event → Bool
is_of u e = u == e.thread

unfoldable pub is_fork : ℕ → Event → Bool
is_fork u e = op_is_fork u e.op

unfoldable pub is_join : ℕ → Event → Bool
is_join u e = op_is_join u e.op

-- how often these threads have acquired, and released, the lock
abbrev pub acquires : (ℕ → Bool) → ℕ → List Event → ℕ
acquires who l past = count_by (is_acquire who l) past

abbrev pub releases : (ℕ → Bool) → ℕ → List Event → ℕ
releases who l past = count_by (is_release who l) past

-- the local time of the event at k, of thread t: how many events of the thread stand at k or before it
abbrev pub local_time : List Event → ℕ → ℕ → ℕ
local_time trace t k = count_by (is_of t) (take (k + 1) trace)

-- a thread is forked by another, once, before its first event and before any join of it
pub record MayFork (past : List Event) (t u : ℕ) : Type 0 where
  pub other : u ≢ t
  pub not_started : count_by (is_of u) past ≡ 0
  pub not_forked : count_by (is_fork u) past ≡ 0
  pub not_joined : count_by (is_join u) past ≡ 0

-- what thread t may do after these events
abbrev pub MayDo : List Event → ℕ → Op → Type 0
MayDo past t (Acquire l) = acquires (other_than t) l past ≡ releases (other_than t) l past
MayDo past t (Release l) = releases (only t) l past < acquires (only t) l past
MayDo past t (Fork u) = MayFork past t u
MayDo past t (Join u) = u ≢ t
MayDo past t _ = Unit {0}

-- a joined thread does nothing more, and each thread does what it may
pub record MayCome (past : List Event) (e : Event) : Type 0 where
  pub not_joined : count_by (is_join e.thread) past ≡ 0
  pub may_do : MayDo past e.thread e.op

-- each event may come after those before it
abbrev pub IsDisciplined : List Event → Type 0
IsDisciplined trace = (k : ℕ) (e : Event) → slice_get trace k ≡ Some e → MayCome (take k trace) e
