-- Schedules: lists of positions of a trace in a new order.
use Rattle.std.specs.Prelude.{◌≡◌, ◌≢◌, ℕ, ◌<◌, ◌⊎◌, ◌↔◌, List, Some, slice_get, length, Contains}
use Rattle.std.specs.List.Sorted.{IsStrictlyIncreasing}
use Rattle.shb_lines.specs.declared.event.Event.{Event}
use Rattle.shb_lines.specs.declared.event.Op.TheVariants.{Read, Write, Fork, Join}
use Rattle.shb_lines.specs.events.Events.{thread_at, op_at, events_at}
use Rattle.shb_lines.specs.events.Discipline.{IsDisciplined}
use Rattle.shb_lines.specs.events.Order.{LastWrite, HbBelow, BelowPred}

-- a stands before b in the list
pub record StandsBefore (s : List ℕ) (a b : ℕ) : Type 0 where
  pub index : ℕ
  pub later_index : ℕ
  pub before : index < later_index
  pub first : slice_get s index ≡ Some a
  pub second : slice_get s later_index ≡ Some b

-- the members are different positions of the trace
pub record IsOfPositions (trace : List Event) (s : List ℕ) : Type 0 where
  pub in_range : (a : ℕ) → Contains s a → a < length trace
  pub distinct : (a : ℕ) → ¬ StandsBefore s a a

-- in the order of the list, w is the latest write before the read r of its variable
pub record LastWriteIn (trace : List Event) (s : List ℕ) (w r : ℕ) : Type 0 where
  pub variable : ℕ
  pub reads : op_at trace r ≡ Some (Read variable)
  pub writes : op_at trace w ≡ Some (Write variable)
  pub earlier : StandsBefore s w r
  pub latest : (k : ℕ) → StandsBefore s w k → StandsBefore s k r → op_at trace k ≢ Some (Write variable)

pub record IsCorrectReordering (trace : List Event) (s : List ℕ) : Type 0 where
  pub positions : IsOfPositions trace s
  -- each thread's events in s are a prefix of that thread's events, in order
  pub prefixes : (t a b : ℕ) → a < b → thread_at trace a ≡ Some t → thread_at trace b ≡ Some t → Contains s b → StandsBefore s a b
  pub disciplined : IsDisciplined (events_at trace s)
  -- the fork of a thread stands before each event of that thread
  pub forks : (u a b : ℕ) → op_at trace a ≡ Some (Fork u) → thread_at trace b ≡ Some u → Contains s b → StandsBefore s a b
  -- a join stands after every event of the joined thread
  pub joins : (u a b : ℕ) → thread_at trace a ≡ Some u → op_at trace b ≡ Some (Join u) → Contains s b → StandsBefore s a b
  -- each read has the last write that it has in the trace, or none in both
  pub reads : (w r : ℕ) → Contains s r → LastWriteIn trace s w r ↔ LastWrite trace w r

-- whatever is HB-below a member is in the list, and stands no later than it
abbrev pub KeepsHb : List Event → List ℕ → Type 0
KeepsHb trace s = (a b : ℕ) → HbBelow trace a b → Contains s b → (a ≡ b) ⊎ StandsBefore s a b

-- e is not in s, and all earlier events of its thread are, and its thread's fork
pub record IsNext (trace : List Event) (s : List ℕ) (e : ℕ) : Type 0 where
  pub absent : ¬ Contains s e
  pub thread_done : (t a : ℕ) → a < e → thread_at trace a ≡ Some t → thread_at trace e ≡ Some t → Contains s a
  pub thread_forked : (t a : ℕ) → op_at trace a ≡ Some (Fork t) → thread_at trace e ≡ Some t → Contains s a

-- s is a schedule of (i, j): it keeps happens-before, and both accesses are next after it
pub record IsSchedule (trace : List Event) (s : List ℕ) (i j : ℕ) : Type 0 where
  pub reordering : IsCorrectReordering trace s
  pub keeps_hb : KeepsHb trace s
  pub first_next : IsNext trace s i
  pub second_next : IsNext trace s j

-- the printed schedule of (i, j): all events SHB-below the predecessor of i or of j, in trace order
pub record IsPrintedSchedule (trace : List Event) (s : List ℕ) (i j : ℕ) : Type 0 where
  pub in_order : IsStrictlyIncreasing s
  pub members : (k : ℕ) → Contains s k ↔ (BelowPred trace k i ⊎ BelowPred trace k j)
