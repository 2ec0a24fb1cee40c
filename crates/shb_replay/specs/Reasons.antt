-- Why a list of positions is no schedule of a pair: the first index with a reason, and the lowest reason there.
use Rattle.std.specs.Prelude.{◌≡◌, ◌≢◌, ℕ, ◌<◌, ◌≤◌, ◌⊎◌, ◌↔◌, List, Some, slice_get, length}
use Rattle.shb_lines.specs.declared.event.Event.{Event}
use Rattle.shb_lines.specs.declared.event.Op.TheVariants.{Read, Write, Acquire, Release, Fork, Join}
use Rattle.shb_lines.specs.events.Events.{thread_at, op_at}
use Rattle.shb_lines.specs.events.Order.{LastWrite}
use Rattle.shb_lines.specs.events.Schedule.{IsNext}
use Rattle.shb_replay.specs.declared.broken.Why.{Why}
use Rattle.shb_replay.specs.declared.broken.Why.TheVariants as whys
use Rattle.shb_lines.specs.Lowest.{IsLowest}

-- the numbers of the reasons
abbrev pub number_of : Why → ℕ
number_of whys.NoSuchEvent = 1
number_of whys.Repeated = 2
number_of whys.ThreadOrder = 3
number_of whys.ForkMissing = 4
number_of whys.JoinEarly = 5
number_of whys.LockOrder = 6
number_of whys.LastWrite = 7
number_of whys.NotNext = 8

-- a stands in the list at an index before p
pub record StandsEarlier (s : List ℕ) (p a : ℕ) : Type 0 where
  pub index : ℕ
  pub earlier : index < p
  pub at : slice_get s index ≡ Some a

-- a is the event before e in its thread
pub record IsBeforeInThread (trace : List Event) (a e : ℕ) : Type 0 where
  pub thread : ℕ
  pub before_of : thread_at trace a ≡ Some thread
  pub of : thread_at trace e ≡ Some thread
  pub earlier : a < e
  pub last : (k : ℕ) → a < k → k < e → thread_at trace k ≢ Some thread

-- e is the first event of its thread, and f forks that thread
pub record IsForkOfFirst (trace : List Event) (f e : ℕ) : Type 0 where
  pub thread : ℕ
  pub forks : op_at trace f ≡ Some (Fork thread)
  pub of : thread_at trace e ≡ Some thread
  pub first : (k : ℕ) → k < e → thread_at trace k ≢ Some thread

-- e joins the thread of a, and a doesn't stand at an index before p
pub record JoinsWithout (trace : List Event) (s : List ℕ) (p e a : ℕ) : Type 0 where
  pub thread : ℕ
  pub joins : op_at trace e ≡ Some (Join thread)
  pub of : thread_at trace a ≡ Some thread
  pub absent : ¬ StandsEarlier s p a

-- e forks a thread that j joins, and j stands at an index before p
pub record ForksAfterJoin (trace : List Event) (s : List ℕ) (p e j : ℕ) : Type 0 where
  pub thread : ℕ
  pub forks : op_at trace e ≡ Some (Fork thread)
  pub joins : op_at trace j ≡ Some (Join thread)
  pub stands : StandsEarlier s p j

-- e acquires a lock that r releases earlier in the trace, and r doesn't stand at an index before p
pub record AcquiresWithout (trace : List Event) (s : List ℕ) (p e r : ℕ) : Type 0 where
  pub lock : ℕ
  pub acquires : op_at trace e ≡ Some (Acquire lock)
  pub releases : op_at trace r ≡ Some (Release lock)
  pub earlier : r < e
  pub absent : ¬ StandsEarlier s p r

-- of the writes of x at indices before p, w is at the latest
pub record IsLatestWrite (trace : List Event) (s : List ℕ) (p x w : ℕ) : Type 0 where
  pub index : ℕ
  pub earlier : index < p
  pub at : slice_get s index ≡ Some w
  pub writes : op_at trace w ≡ Some (Write x)
  pub latest : (q k : ℕ) → index < q → q < p → slice_get s q ≡ Some k → op_at trace k ≢ Some (Write x)

-- the read e of x has at index p another latest write than its last write in the trace, or one of the two alone
pub record ReadsOther (trace : List Event) (s : List ℕ) (p e x : ℕ) : Type 0 where
  pub reads : op_at trace e ≡ Some (Read x)
  pub differ : ¬ ((w : ℕ) → IsLatestWrite trace s p x w ↔ LastWrite trace w e)

-- the event e, at index p of the list, has the reason
abbrev pub HasReason : List Event → List ℕ → ℕ → ℕ → Why → Type 0
HasReason trace s p e whys.NoSuchEvent = length trace ≤ e
HasReason trace s p e whys.Repeated = StandsEarlier s p e
HasReason trace s p e whys.ThreadOrder = (a : ℕ) × IsBeforeInThread trace a e × ¬ StandsEarlier s p a
HasReason trace s p e whys.ForkMissing = (f : ℕ) × IsForkOfFirst trace f e × ¬ StandsEarlier s p f
HasReason trace s p e whys.JoinEarly = ((a : ℕ) × JoinsWithout trace s p e a) ⊎ ((j : ℕ) × ForksAfterJoin trace s p e j)
HasReason trace s p e whys.LockOrder = (r : ℕ) × AcquiresWithout trace s p e r
HasReason trace s p e whys.LastWrite = (x : ℕ) × ReadsOther trace s p e x
HasReason trace s p e whys.NotNext = ⊥

-- no event at an index before n has a reason
abbrev pub IsUnbroken : List Event → List ℕ → ℕ → Type 0
IsUnbroken trace s n = (p e : ℕ) (why : Why) → p < n → slice_get s p ≡ Some e → ¬ HasReason trace s p e why

-- the first index whose event has a reason, and the lowest that it has
pub record IsFirstReason (trace : List Event) (s : List ℕ) (at : ℕ) (why : Why) : Type 0 where
  pub event : ℕ
  pub there : slice_get s at ≡ Some event
  pub lowest : IsLowest number_of (HasReason trace s at event) (Some why)
  pub earlier : IsUnbroken trace s at

-- no index has a reason, and i or j isn't next after the list
pub record IsNotNext (trace : List Event) (s : List ℕ) (i j at : ℕ) : Type 0 where
  pub at_end : at ≡ length s
  pub earlier : IsUnbroken trace s at
  pub not_next : (¬ IsNext trace s i) ⊎ (¬ IsNext trace s j)

-- where and why the list is no schedule of (i, j)
abbrev pub IsBroken : List Event → List ℕ → ℕ → ℕ → ℕ → Why → Type 0
IsBroken trace s i j at whys.NotNext = IsNotNext trace s i j at
IsBroken trace s i j at why = IsFirstReason trace s at why
