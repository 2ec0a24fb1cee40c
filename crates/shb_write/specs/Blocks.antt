-- The blocks of races, written one after the other.
use Rattle.std.specs.Prelude.{◌≡◌, ℕ, ◌+◌, ◌-◌, ◌^◌, ◌<◌, Bool, List, [], ◌∷◌, All, length, map, Option, None, Some, Result, MatchResult, if◌then◌else◌, slice_index_or}
use Rattle.std.specs.Io.KnownBytes.{Appends}
use Rattle.shb_lines.specs.declared.event.Event.{Event}
use Rattle.shb_lines.specs.declared.event.Pair.{Pair}
use Rattle.shb_lines.specs.events.Race.{ends}
use Rattle.shb_lines.specs.text.TraceData.{TraceData}
use Rattle.shb_format.specs.Places.{IsPairOf}
use Rattle.shb_format.specs.Report.{ShownRace, blocks_from, pair_of}
use Rattle.shb_witness.specs.Schedules.{printed_schedule}
use Rattle.shb_write.specs.declared.block_writer.BlockWriter.{BlockWriter}
use Rattle.shb_write.specs.declared.errors.WriteError.{WriteError}
use Rattle.shb_write.specs.declared.schedule_writer.ScheduleWriter.{ScheduleWriter}
use Rattle.shb_write.specs.Written.{AppendsFront, write_failed}

-- a race without a schedule, and with its printed schedule
abbrev pub alone : ℕ × ℕ → ShownRace
alone race = record { pair = race; schedule = None }

abbrev pub scheduled_in : List Event → ℕ × ℕ → ShownRace
scheduled_in events race = record { pair = race; schedule = Some (printed_schedule events (pair_of race)) }

abbrev pub scheduled : TraceData → ℕ × ℕ → ShownRace
scheduled trace race = scheduled_in trace.events race

-- a race of these events in one of the two forms
abbrev pub shown_in : Bool → List Event → ℕ × ℕ → ShownRace
shown_in with_schedules events race = if with_schedules then scheduled_in events race else alone race

-- a race with this schedule
abbrev pub with_schedule : Pair → List ℕ → ShownRace
with_schedule race schedule = record { pair = ends race; schedule = Some schedule }

-- race n with the first schedule, race n + 1 with the second, and so on
abbrev pub shown_from : ℕ → List Pair → List (List ℕ) → List ShownRace
shown_from n races [] = []
shown_from n races (schedule ∷ schedules) = with_schedule (slice_index_or races n (record { first = 0; second = 0 })) schedule ∷ shown_from (n + 1) races schedules

-- the blocks of these races in one of the two forms, numbered from 1
abbrev pub blocks_of : Bool → TraceData → List (ℕ × ℕ) → List ℕ
blocks_of with_schedules trace races = blocks_from trace 1 (if with_schedules then map (scheduled trace) races else map alone races)

-- these bytes were written or, on an error, the front of them, perhaps all
abbrev pub WritesFront : {T E : Type 0} → Option (List ℕ) → Option (List ℕ) → Result T E → List ℕ → Type 0
WritesFront old new r bs = MatchResult r (λ _. Appends old new bs) (λ _. AppendsFront old new bs)

-- the blocks of some races were written or, on an error, the front of them, perhaps all
abbrev pub WritesBlocks : {T E : Type 0} → Bool → TraceData → List (ℕ × ℕ) → Option (List ℕ) → Option (List ℕ) → Result T E → Type 0
WritesBlocks with_schedules trace races old new r = WritesFront old new r (blocks_of with_schedules trace races)

module _ {K : Type 0} (taken : K → Option (List ℕ)) (failures : K → ℕ) where
  -- the blocks of these races were written, and nothing else changed
  pub record HasWritten (start : BlockWriter K) (races : List ShownRace) (end : BlockWriter K) : Type 0 where
    pub same_sink : end.sink.ghost_name ≡ start.sink.ghost_name
    pub same_trace : end.trace.now ≡ start.trace.now
    pub as_many : end.written ≡ length races + start.written
    pub appended : Appends (taken start.sink.now) (taken end.sink.now) (blocks_from start.trace.now (start.written + 1) races)
    pub counted : failures end.sink.now ≡ failures start.sink.now

  -- the front of the blocks of these races was written
  pub record HasStopped (start : BlockWriter K) (races : List ShownRace) (error : WriteError) (end : BlockWriter K) : Type 0 where
    pub same_sink : end.sink.ghost_name ≡ start.sink.ghost_name
    pub front : AppendsFront (taken start.sink.now) (taken end.sink.now) (blocks_from start.trace.now (start.written + 1) races)
    pub counted : failures end.sink.now ≡ (if write_failed error then failures start.sink.now + 1 else failures start.sink.now)

-- blocks of these races were written or, on an error, the front of them
abbrev pub HasShown : {K T : Type 0} → (K → Option (List ℕ)) → (K → ℕ) → BlockWriter K → List ShownRace → Result T WriteError → BlockWriter K → Type 0
HasShown taken failures start races r end = MatchResult r (λ _. HasWritten taken failures start races end) (λ e. HasStopped taken failures start races e end)

-- there is a next race, the races can be numbered and are of the trace, and the sink can count a failure
pub record MaySchedule {K : Type 0} (failures : K → ℕ) (start : ScheduleWriter K) (schedules : List (List ℕ)) : Type 0 where
  pub more : length schedules < length start.races.now
  pub room : length start.races.now + start.writer.written < 2 ^ 64
  pub countable : failures start.writer.sink.now < 2 ^ 64 - 1
  pub in_range : All (IsPairOf start.writer.trace.now) start.races.now

-- the blocks of the next races were written, one for each of these schedules, and nothing else changed
pub record HasScheduled {K : Type 0} (taken : K → Option (List ℕ)) (failures : K → ℕ) (start : ScheduleWriter K) (schedules : List (List ℕ)) (end : ScheduleWriter K) : Type 0 where
  pub same_races : end.races.now ≡ start.races.now
  pub written : HasWritten taken failures start.writer (shown_from 0 start.races.now schedules) end.writer
