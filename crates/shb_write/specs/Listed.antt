-- What is listed where the races of a trace are found batch by batch.
use Rattle.std.specs.Prelude.{◌≡◌, ℕ, ◌+◌, ◌-◌, ◌^◌, ◌<◌, List, All, Option, Result, length, map}
use Rattle.shb_lines.specs.declared.event.Event.{Event}
use Rattle.shb_lines.specs.events.Race.{Race}
use Rattle.shb_lines.specs.text.TraceData.{TraceData}
use Rattle.shb_format.specs.Report.{ShownRace}
use Rattle.shb_write.specs.Blocks.{HasShown}
use Rattle.shb_write.specs.declared.block_writer.BlockWriter.{BlockWriter}
use Rattle.shb_write.specs.declared.errors.WriteError.{WriteError}

-- both events of the race are events of the trace
abbrev pub IsRaceOf : TraceData → ℕ × ℕ → Type 0
IsRaceOf trace race = (race.0 < length trace.events) × (race.1 < length trace.events)

-- blocks of these races can be written: they can be numbered, they are races of the trace, and the sink can count a failure
pub record MayList {K : Type 0} (failures : K → ℕ) (events : List Event) (start : BlockWriter K) (races : List (ℕ × ℕ)) : Type 0 where
  pub of_trace : events ≡ start.trace.now.events
  pub are_races : All (λ race. Race events race.0 race.1) races
  pub countable : failures start.sink.now < 2 ^ 64 - 1
  pub room : length races + start.written < 2 ^ 64
  pub in_range : All (IsRaceOf start.trace.now) races

-- the blocks of these races, shown so, were written or, on an error, the front of them
abbrev pub HasListed : {K T : Type 0} → (ℕ × ℕ → ShownRace) → (K → Option (List ℕ)) → (K → ℕ) → BlockWriter K → List (ℕ × ℕ) → Result T WriteError → BlockWriter K → Type 0
HasListed shown taken failures start races r end = HasShown taken failures start (map shown races) r end
