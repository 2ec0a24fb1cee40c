-- The faults of the discipline: which of them an event has, and the first of a trace; and the first fault of a text, of its lines or of the discipline of their events.
use Rattle.std.specs.Prelude.{◌≡◌, ◌≢◌, ℕ, ◌<◌, ◌≤◌, List, Option, Some, None, slice_get, count_by, take, ◌⊎◌, ◌+◌, length}
use Rattle.shb_lines.specs.declared.event.Event.{Event}
use Rattle.shb_lines.specs.declared.fault.LineFault.{LineFault}
use Rattle.shb_lines.specs.declared.event.Op.TheVariants.{Acquire, Release, Fork, Join}
use Rattle.shb_lines.specs.events.Discipline.{acquires, is_fork, is_join, is_of, only, other_than, releases, IsDisciplined, MayCome}
use Rattle.shb_lines.specs.declared.fault.Fault.{Fault}
use Rattle.shb_lines.specs.declared.fault.Fault.TheVariants as faults
use Rattle.shb_discipline.specs.declared.checking.CheckError.{CheckError}
use Rattle.shb_discipline.specs.declared.checking.CheckError.TheVariants.{Undisciplined, Memory}
use Rattle.shb_lines.specs.Lowest.{IsLowest}
use Rattle.shb_lines.specs.text.Faults.{HasFault, number_of}
use Rattle.shb_lines.specs.declared.limits.Limits.{Limits}
use Rattle.shb_lines.specs.text.Text.{lines_of}
use Rattle.shb_lines.specs.text.TraceData.{IsTraceOf, TraceData}

-- the event has the fault, after these events
abbrev pub HasDisciplineFault : List Event → Event → Fault → Type 0
HasDisciplineFault past e faults.AfterJoin = 0 < count_by (is_join e.thread) past
HasDisciplineFault past e faults.LockHeld = (l : ℕ) × (e.op ≡ Acquire l) × (acquires (other_than e.thread) l past ≢ releases (other_than e.thread) l past)
HasDisciplineFault past e faults.NotHeld = (l : ℕ) × (e.op ≡ Release l) × (acquires (only e.thread) l past ≤ releases (only e.thread) l past)
HasDisciplineFault past e faults.ForkSelf = e.op ≡ Fork e.thread
HasDisciplineFault past e faults.ForkStarted = (u : ℕ) × (e.op ≡ Fork u) × (0 < count_by (is_of u) past)
HasDisciplineFault past e faults.ForkTwice = (u : ℕ) × (e.op ≡ Fork u) × (0 < count_by (is_fork u) past)
HasDisciplineFault past e faults.ForkJoined = (u : ℕ) × (e.op ≡ Fork u) × (0 < count_by (is_join u) past)
HasDisciplineFault past e faults.JoinSelf = e.op ≡ Join e.thread
HasDisciplineFault past e _ = ⊥

-- the first event that may not come after those before it, its line and its fault of lowest number
pub record IsFirstDisciplineFault (trace : List Event) (line : ℕ) (fault : Fault) : Type 0 where
  pub position : ℕ
  pub event : Event
  pub at : slice_get trace position ≡ Some event
  pub line_is : line ≡ event.line
  pub lowest : IsLowest number_of (HasDisciplineFault (take position trace) event) (Some fault)
  pub earlier : (k : ℕ) (e : Event) → k < position → slice_get trace k ≡ Some e → MayCome (take k trace) e

-- the first fault of a trace, if it has one
abbrev pub IsFirstIfAny : List Event → Option LineFault → Type 0
IsFirstIfAny trace None = IsDisciplined trace
IsFirstIfAny trace (Some found) = IsFirstDisciplineFault trace found.line found.fault

-- the answer to a trace that is refused
abbrev pub IsRefusal : List Event → CheckError → Type 0
IsRefusal trace (Undisciplined line fault) = IsFirstDisciplineFault trace line fault
IsRefusal trace (Memory _) = Unit {0}

-- in the trace of the lines up to line i, the event on line i has the fault after the events before it; lines are counted from 0 here
pub record BreaksDiscipline (text : List ℕ) (i : ℕ) (fault : Fault) : Type 0 where
  pub trace : TraceData
  pub numbered : IsTraceOf (take (i + 1) (lines_of text)) trace
  pub position : ℕ
  pub event : Event
  pub at : slice_get trace.events position ≡ Some event
  pub on_line : event.line ≡ i + 1
  pub has : HasDisciplineFault (take position trace.events) event fault

module _ (limits : Limits) (text : List ℕ) where
  -- the line has a line fault, or its event breaks the discipline
  abbrev pub HasAnyFault : ℕ → Fault → Type 0
  HasAnyFault i fault = HasFault limits text i fault ⊎ BreaksDiscipline text i fault

  -- no line before line i has a fault
  abbrev pub HasNoFaultBefore : ℕ → Type 0
  HasNoFaultBefore i = (k : ℕ) (fault : Fault) → k < i → HasAnyFault k fault → ⊥

  -- the least line with a fault, counted from 1, and its fault of lowest number
  pub record IsFirstFault (line : ℕ) (fault : Fault) : Type 0 where
    pub before : ℕ
    pub line_is : line ≡ before + 1
    pub within : before < length (lines_of text)
    pub lowest : IsLowest number_of (HasAnyFault before) (Some fault)
    pub earlier : HasNoFaultBefore before

  -- no line has a fault
  abbrev pub HasNoFault : Type 0
  HasNoFault = HasNoFaultBefore (length (lines_of text))
