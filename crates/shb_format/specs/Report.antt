-- The bytes of a report, in version 2, and which bytes are the report of a trace or of a text.
use Rattle.std.specs.Prelude.{◌≡◌, ℕ, ◌+◌, Bool, MatchBool, List, [], ◌∷◌, ◌++◌, length, map, All, slice_get, codes, Option, None, Some, IsSomeAnd, unwrap_or}
use Rattle.shb_lines.specs.declared.event.Pair.{Pair}
use Rattle.shb_lines.specs.events.Race.{IsRaceList}
use Rattle.shb_lines.specs.events.Schedule.{IsPrintedSchedule}
use Rattle.shb_lines.specs.text.Text.{lines_of}
use Rattle.shb_lines.specs.text.TraceData.{IsTraceOf, TraceData}
use Rattle.shb_format.specs.declared.counts.Counts.{Counts}
use Rattle.shb_format.specs.Places.{counts_in, places_of_pairs, section_bytes}
use Rattle.shb_format.specs.Value.{counts_line, lines_text, numbers_line, race_numbers_line, races_line}

-- the first lines: the version, the counts of the trace and the number of races
abbrev pub head_bytes : Counts → ℕ → List ℕ
head_bytes counts races = lines_text (codes "shb-report 2" ∷ (counts_line counts ∷ (races_line races ∷ [])))

-- the line of an event as the text has it; every event of a trace has one
abbrev pub line_of_event : TraceData → ℕ → List ℕ
line_of_event trace event = unwrap_or (slice_get trace.lines event) []

-- the line of a schedule if there is one: how many events it has, and their numbers, which are counted from 1
abbrev pub schedule_lines : Option (List ℕ) → List (List ℕ)
schedule_lines None = []
schedule_lines (Some events) = numbers_line (map (λ event. event + 1) events) ∷ []

-- the block of a race: its number and those of its two events, which are counted from 1, the lines of the two, and its schedule if there is one
abbrev pub block_bytes : TraceData → ℕ → ℕ × ℕ → Option (List ℕ) → List ℕ
block_bytes trace number pair schedule =
    lines_text (race_numbers_line number (pair.0 + 1) (pair.1 + 1)
    ∷ ((codes "first " ++ line_of_event trace pair.0) ∷ ((codes "second " ++ line_of_event trace pair.1) ∷ schedule_lines schedule)))

abbrev pub tail_bytes : List ℕ
tail_bytes = codes "end\n"

-- a race as a report shows it: its two events, counted from 0, and its schedule if there is one
pub record ShownRace : Type 0 where
  pub pair : ℕ × ℕ
  pub schedule : Option (List ℕ)

-- the blocks of some races, of which the first has this number
abbrev pub blocks_from : TraceData → ℕ → List ShownRace → List ℕ
blocks_from trace number [] = []
blocks_from trace number (race ∷ races) = block_bytes trace number race.pair race.schedule ++ blocks_from trace (number + 1) races

-- the schedule shown is the printed one of the pair, or none in the form without schedules
abbrev pub HasSchedule : Bool → TraceData → ShownRace → Type 0
HasSchedule with_schedules trace race =
    MatchBool with_schedules (IsSomeAnd race.schedule (λ s. IsPrintedSchedule trace.events s race.pair.0 race.pair.1)) (race.schedule ≡ None)

-- the bytes are the blocks of these races, numbered from 1
pub record AreBlocks (with_schedules : Bool) (trace : TraceData) (races : List (ℕ × ℕ)) (bytes : List ℕ) : Type 0 where
  pub shown : List ShownRace
  pub races_are : map (λ race. race.pair) shown ≡ races
  pub schedules_are : All (HasSchedule with_schedules trace) shown
  pub bytes_are : bytes ≡ blocks_from trace 1 shown

-- how much there is in a trace; threads that are only forked or joined count as well
abbrev pub counts_of : TraceData → Counts
counts_of trace = record {
  events = length trace.events;
  threads = length trace.threads;
  locks = length trace.locks;
  variables = length trace.variables;
}

abbrev pub pair_of : ℕ × ℕ → Pair
pair_of race = record { first = race.0; second = race.1 }

-- the lines before the first block: the head, and the places of the races
abbrev pub front_bytes : TraceData → List (ℕ × ℕ) → List ℕ
front_bytes trace races = head_bytes (counts_of trace) (length races) ++ section_bytes trace (counts_in (places_of_pairs trace (map pair_of races)))

-- what a report lists: the race list of a trace
abbrev pub AllRaces : TraceData → List (ℕ × ℕ) → Type 0
AllRaces trace races = IsRaceList trace.events races

-- the bytes are the report of a trace that lists such races: the head, their places, a block for each of them in order, and the tail
pub record IsReportOn (Lists : TraceData → List (ℕ × ℕ) → Type 0) (with_schedules : Bool) (trace : TraceData) (bytes : List ℕ) : Type 0 where
  pub races : List (ℕ × ℕ)
  pub blocks : List ℕ
  pub races_are : Lists trace races
  pub blocks_are : AreBlocks with_schedules trace races blocks
  pub bytes_are : bytes ≡ front_bytes trace races ++ (blocks ++ tail_bytes)

-- the same of a text: the bytes are that of the trace of all its lines
pub record IsReportOnText (Lists : TraceData → List (ℕ × ℕ) → Type 0) (with_schedules : Bool) (text bytes : List ℕ) : Type 0 where
  pub trace : TraceData
  pub trace_is : IsTraceOf (lines_of text) trace
  pub report : IsReportOn Lists with_schedules trace bytes
