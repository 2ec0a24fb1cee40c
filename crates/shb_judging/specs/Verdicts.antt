-- When a report is good for a trace, and what is said of one that isn't, or of a text that is no report: the first verdict that applies.
use Rattle.std.specs.Prelude.{◌≡◌, ◌≢◌, ℕ, zero, suc, ◌+◌, ◌-◌, ◌<◌, ◌≤◌, ◌⊎◌, List, ◌++◌, codes, decimal, length, map, take, slice_get, Option, Some, IfSome, min}
use Rattle.std.specs.List.{AllByRecursion}
use Rattle.shb_lines.specs.declared.event.Pair.{Pair}
use Rattle.shb_lines.specs.events.Race.{Conflict}
use Rattle.shb_lines.specs.events.Schedule.{IsSchedule}
use Rattle.shb_lines.specs.text.Limits.{most_bytes}
use Rattle.shb_lines.specs.text.TraceData.{TraceData}
use Rattle.shb_replay.specs.Reasons.{IsBroken}
use Rattle.shb_judging.specs.declared.verdict.RaceFault.{RaceFault}
use Rattle.shb_judging.specs.declared.verdict.RaceFault.TheVariants.{Absent, NoConflict, FirstLine, SecondLine, Schedule}
use Rattle.shb_judging.specs.declared.verdict.Verdict.{Verdict}
use Rattle.shb_judging.specs.declared.verdict.Verdict.TheVariants.{Good, BadLine, BadCounts, BadRace, BadPlaces}
use Rattle.shb_reading.specs.Reading.{IsBadLine, IsReportText}
use Rattle.shb_format.specs.Places.{counts_in, places_of_pairs, shown_places}
use Rattle.shb_format.specs.Report.{counts_of, line_of_event}
use Rattle.shb_format.specs.Value.{Block, Place, ReportValue}
use Rattle.shb_lines.specs.Lowest.{IsLowest}

-- the block is about two events that conflict, the earlier one first, and has their lines; its numbers count from 1
pub record HasGoodPair (trace : TraceData) (block : Block) : Type 0 where
  pub first_counts : 1 ≤ block.first
  pub in_range : block.second ≤ length trace.events
  pub earlier : block.first < block.second
  pub conflict : Conflict trace.events (block.first - 1) (block.second - 1)
  pub first_line : block.first_line ≡ line_of_event trace (block.first - 1)
  pub second_line : block.second_line ≡ line_of_event trace (block.second - 1)

-- and the numbers of its schedule are those of a schedule of the two
pub record IsGoodBlock (trace : TraceData) (block : Block) : Type 0 where
  pub pair : HasGoodPair trace block
  pub events : List ℕ
  pub numbers : block.schedule ≡ map (λ e. e + 1) events
  pub schedule : IsSchedule trace.events events (block.first - 1) (block.second - 1)

-- the two events of a block, whose numbers count from 1
abbrev pub pair_in : Block → Pair
pair_in block = record { first = block.first - 1; second = block.second - 1 }

-- the places, where there are any, are those of the pairs, in the order in which they are listed
abbrev pub HasPlacesOf : TraceData → Option (List Place) → List Pair → Type 0
HasPlacesOf trace listed pairs = IfSome listed (λ places. places ≡ shown_places trace (counts_in (places_of_pairs trace pairs)))

-- the counts are those of the trace, each block is good, and so are the places
pub record IsGoodReport (trace : TraceData) (report : ReportValue) : Type 0 where
  pub counts : report.counts ≡ counts_of trace
  pub blocks : AllByRecursion (IsGoodBlock trace) report.blocks
  pub places : HasPlacesOf trace report.places (map pair_in report.blocks)

-- the number is that of no event, since those count from 1
abbrev pub IsNoEvent : TraceData → ℕ → Type 0
IsNoEvent trace number = (number ≡ 0) ⊎ (length trace.events < number)

-- the position that a number in a schedule stands for; a number of no event stands for the position after the last event
abbrev pub position_of : ℕ → ℕ → ℕ
position_of count zero = count
position_of count (suc n) = min n count

abbrev pub positions_of : TraceData → List ℕ → List ℕ
positions_of trace numbers = map (position_of (length trace.events)) numbers

-- the faults of a block
abbrev pub HasRaceFault : TraceData → Block → RaceFault → Type 0
HasRaceFault trace block Absent = IsNoEvent trace block.first ⊎ IsNoEvent trace block.second
HasRaceFault trace block NoConflict = ¬ ((block.first < block.second) × Conflict trace.events (block.first - 1) (block.second - 1))
HasRaceFault trace block FirstLine = block.first_line ≢ line_of_event trace (block.first - 1)
HasRaceFault trace block SecondLine = block.second_line ≢ line_of_event trace (block.second - 1)
HasRaceFault trace block (Schedule broken) = IsBroken trace.events (positions_of trace block.schedule) (block.first - 1) (block.second - 1) broken.at broken.why

-- their numbers
abbrev pub fault_number : RaceFault → ℕ
fault_number Absent = 1
fault_number NoConflict = 2
fault_number FirstLine = 3
fault_number SecondLine = 4
fault_number (Schedule broken) = 5

-- of the faults of a block the one of lowest number
abbrev pub IsLowestFault : TraceData → Block → RaceFault → Type 0
IsLowestFault trace block why = IsLowest fault_number (HasRaceFault trace block) (Some why)

-- the first block that isn't good has this number, which counts from 1, and this is its lowest fault
pub record IsFirstBadBlock (trace : TraceData) (blocks : List Block) (race : ℕ) (why : RaceFault) : Type 0 where
  pub before : ℕ
  pub race_is : race ≡ before + 1
  pub good : AllByRecursion (IsGoodBlock trace) (take before blocks)
  pub block : Block
  pub there : slice_get blocks before ≡ Some block
  pub fault : IsLowestFault trace block why

-- the first verdict that applies: counts, then blocks, then places
abbrev pub IsVerdict : TraceData → ReportValue → Verdict → Type 0
IsVerdict trace report (Good races) = IsGoodReport trace report × (races ≡ length report.blocks)
IsVerdict trace report BadCounts = report.counts ≢ counts_of trace
IsVerdict trace report (BadRace race why) = (report.counts ≡ counts_of trace) × IsFirstBadBlock trace report.blocks race why
IsVerdict trace report BadPlaces = (report.counts ≡ counts_of trace) × AllByRecursion (IsGoodBlock trace) report.blocks × (¬ HasPlacesOf trace report.places (map pair_in report.blocks))
IsVerdict trace report (BadLine line) = ⊥

-- the text is a report, and this is its verdict against the trace
pub record IsJudged (trace : TraceData) (text : List ℕ) (verdict : Verdict) : Type 0 where
  pub report : ReportValue
  pub report_is : IsReportText most_bytes text report
  pub verdict_is : IsVerdict trace report verdict

-- the verdict on a text against a trace: its bad line where it is no report
abbrev pub IsVerdictFor : TraceData → List ℕ → Verdict → Type 0
IsVerdictFor trace text (BadLine line) = IsBadLine most_bytes text line
IsVerdictFor trace text verdict = IsJudged trace text verdict

-- the line of a verdict
abbrev pub verdict_bytes : Verdict → List ℕ
verdict_bytes (Good races) = codes "ok " ++ (decimal races ++ codes "\n")
verdict_bytes (BadLine line) = codes "bad line " ++ (decimal line ++ codes "\n")
verdict_bytes BadCounts = codes "bad counts\n"
verdict_bytes (BadRace race why) = codes "bad race " ++ (decimal race ++ codes "\n")
verdict_bytes BadPlaces = codes "bad places\n"
