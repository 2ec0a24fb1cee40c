-- What is known of a text that is read once, line by line, and of which no event is kept; and of a trace whose events are taken one by one.
use Rattle.std.specs.Prelude.{◌≡◌, ◌⊎◌, ◌+◌, ◌-◌, ◌^◌, ◌≤◌, ℕ, Bool, true, false, List, ◌++◌, All, length, map, is_some, Option, Result, Ok, Err, IfOk, ⊤, slice_get, Some, take}
use Rattle.std.specs.Io.KnownBytes.{IsAtEnd}
use Rattle.std.specs.List.{IsDistinct}
use Rattle.std.specs.Str.{bytes_eq}
use Rattle.shb_io.specs.Devices.{CountsFailure}
use Rattle.shb_lines.specs.declared.event_reader.Taken.{Taken}
use Rattle.shb_lines.specs.declared.event_reader.Taken.TheVariants.{Nothing}
use Rattle.shb_lines.specs.declared.event.Op.{Op}
use Rattle.shb_lines.specs.declared.numbering.Numbering.{Numbering}
use Rattle.shb_lines.specs.declared.owned_names.OwnedNames.{OwnedNames}
use Rattle.shb_lines.specs.events.Discipline.{IsDisciplined}
use Rattle.shb_lines.specs.events.Events.{variable_of}
use Rattle.shb_lines.specs.text.Lines.{Moves}
use Rattle.shb_lines.specs.text.Text.{lines_of, with_name}
use Rattle.shb_lines.specs.text.Numbering.{IsWithin, tables_of}
use Rattle.shb_lines.specs.text.Taken.{HasTaken, IsTakenNext, IsWithinAfter, rest_of}
use Rattle.shb_lines.specs.text.TraceData.{IsTraceOf, TraceData, location_of, tables_in}
use Rattle.shb_discipline.specs.Faults.{HasNoFault, IsFirstFault}
use Rattle.shb_discipline.specs.State.{IsStateAfter}
use Rattle.shb_discipline.specs.declared.state.State.{State}
use Rattle.shb_format.specs.declared.counts.Counts.{Counts}
use Rattle.shb_format.specs.Keyed.{AreKeyed}
use Rattle.shb_format.specs.Places.{PlaceOf, location_at, places_of_pairs}
use Rattle.shb_format.specs.Report.{pair_of}
use Rattle.shb_nearest.specs.Found.{IsFoundRace, ends_of}
use Rattle.shb_nearest.specs.Nearest.{AreNearest}
use Rattle.shb_nearest.specs.Searched.{HasSearched}
use Rattle.shb_nearest.specs.declared.access.FoundRace.{FoundRace}
use Rattle.shb_nearest.specs.declared.access.Spot.{Spot}
use Rattle.shb_nearest.specs.declared.search.NearestRaces.{NearestRaces}
use Rattle.shb_scan.specs.declared.errors.ScanError.{ScanError}
use Rattle.shb_scan.specs.declared.errors.ScanError.TheVariants as errors
use Rattle.shb_scan.specs.declared.writing.FoundScan.{FoundScan}
use Rattle.shb_scan.specs.declared.reading.Scan.{Scan}
use Rattle.shb_scan.specs.FoundNames.{AreLocated, AreSpots, IsSpotOf}
use Rattle.shb_scan.specs.Errors.{IsReading, OnTooManyLines, OnTrace, source_failed}
use Rattle.shb_scan.specs.Outcomes.{ReadsAll, ReadsFront, scan_bounds, scan_limits, site_at}
use Rattle.std.specs.Option.{option_map_or}
use Rattle.shb_stamps.specs.Open.{is_open}

-- the spot of an event by its line, if it is an access; then its location is put among the names
pub record HasSpot (old new : List (List ℕ)) (op : Op) (line : List ℕ) (spot : Spot) : Type 0 where
  pub access : is_some (variable_of op) ≡ true → IsSpotOf new line spot
  pub names : (new ≡ old) ⊎ (new ≡ with_name old (location_of line))

-- the events of a trace meet the discipline, and all of them were noted
pub record HasNoted (trace : TraceData) (spots : List Spot) (locations : OwnedNames) (state : State) (nearest : NearestRaces) : Type 0 where
  pub a_line_each : length trace.lines ≡ length trace.events
  pub disciplined : IsDisciplined trace.events
  pub state_is : IsStateAfter trace.events state
  pub searched : HasSearched trace.events spots nearest
  pub located : AreSpots trace locations spots
  pub distinct : IsDistinct bytes_eq locations
  pub few : length locations ≤ length trace.events

-- of the bytes that were read so far these lines were taken, and their events were noted
pub record HasScanned (read : List ℕ) (lines : List (List ℕ)) (left : Option (List ℕ)) (scan : Scan) : Type 0 where
  pub taken : HasTaken scan_bounds read lines left scan.reader
  pub within : IsWithin scan_bounds scan.reader.numbering
  pub trace : TraceData
  pub trace_is : IsTraceOf lines trace
  pub spots : List Spot
  pub noted : HasNoted trace spots scan.locations scan.state scan.nearest

-- the events of these lines were noted, and this is taken next
pub record IsNext (read : List ℕ) (lines : List (List ℕ)) (left : Option (List ℕ)) (scan : Scan) (taken : Taken) : Type 0 where
  pub trace : TraceData
  pub trace_is : IsTraceOf lines trace
  pub spots : List Spot
  pub noted : HasNoted trace spots scan.locations scan.state scan.nearest
  pub next : IsTakenNext scan_bounds read lines left scan.reader taken
  pub within : IsWithinAfter scan_bounds scan.reader.numbering taken
  pub many : taken ≡ Nothing → 2 ^ 64 - 1 ≤ scan.reader.line

-- the end of a source was reached: no line of its text has a fault, and all events were noted
pub record HasEnded (text : List ℕ) (left : Option (List ℕ)) (scan : Scan) : Type 0 where
  pub ended : IsAtEnd left
  pub faultless : HasNoFault (scan_limits text) text
  pub scanned : HasScanned text (lines_of text) left scan

-- what a step answers, where these bytes were read and so many events noted before: that there is one more; that there is none; or why no more are read
abbrev pub IsStepped : List ℕ → Option (List ℕ) → ℕ → Scan → Result Bool ScanError → Type 0
IsStepped read left before scan (Ok true) = (lines : List (List ℕ)) × HasScanned read lines left scan × (scan.reader.numbering.events ≡ before + 1)
IsStepped read left before scan (Ok false) = HasEnded read left scan
IsStepped read left before scan (Err (errors.Trace line fault)) = let text = read ++ rest_of left in IsFirstFault (scan_limits text) text line fault
IsStepped read left before scan (Err errors.TooManyLines) = 2 ^ 64 - 1 ≤ length (lines_of (read ++ rest_of left))
IsStepped read left before scan (Err errors.Sink) = ⊥
IsStepped read left before scan (Err _) = ⊤

-- the places of some races
abbrev pub places_in : TraceData → List FoundRace → List PlaceOf
places_in trace races = places_of_pairs trace (map pair_of (map ends_of races))

-- what is found in a text that has no fault: its counts and names, the nearest races of its trace, and their places
pub record IsFoundIn (text : List ℕ) (found : FoundScan) : Type 0 where
  pub faultless : HasNoFault (scan_limits text) text
  pub trace : TraceData
  pub trace_is : IsTraceOf (lines_of text) trace
  pub disciplined : IsDisciplined trace.events
  pub names_are : tables_of found.reader.numbering ≡ tables_in trace
  pub count_is : found.reader.numbering.events ≡ length trace.events
  pub spots : List Spot
  pub located : AreSpots trace found.locations spots
  pub nearest : AreNearest trace.events (site_at found.by_variable trace) (map ends_of found.races.items)
  pub accesses : All (IsFoundRace trace.events spots) found.races.items
  pub few : length found.locations ≤ 2 ^ 32
  pub places : AreKeyed found.locations found.places (places_in trace found.races.items)

-- what the reading of a source answers, and what it leaves: the races that are found in all of its text; the first fault of the text; or that it has more lines than are counted. The source lost what was read
pub record HasReadScan (old new : Option (List ℕ)) (given_before given_after failed_before failed_after : ℕ) (answer : Result FoundScan ScanError) : Type 0 where
  pub found : IfOk answer (λ found. ReadsAll old new given_before given_after (λ text. IsFoundIn text found))
  pub refused : OnTrace answer (λ line fault. ReadsFront old new given_before given_after (λ text. IsFirstFault (scan_limits text) text line fault))
  pub many : OnTooManyLines answer (ReadsFront old new given_before given_after (λ text. 2 ^ 64 - 1 ≤ length (lines_of text)))
  pub read : IsReading answer
  pub moved : (bytes : List ℕ) × Moves old new given_before given_after bytes
  pub counted : CountsFailure source_failed failed_before failed_after answer

-- how many events, threads, locks and variables were numbered
abbrev pub counts_in : Numbering → Counts
counts_in numbering = record {
  events = numbering.events;
  threads = length numbering.threads;
  locks = length numbering.locks;
  variables = length numbering.variables;
}

-- the spot of an event has the number of its location, if it accesses an open variable; the others keep their numbers
pub record IsSpotIn (trace : TraceData) (flags : List Bool) (op : Op) (e : ℕ) (old new : List (List ℕ)) (spot : Spot) : Type 0 where
  pub access : option_map_or (is_open flags) (variable_of op) false ≡ true → slice_get new spot.location ≡ Some (location_at trace e)
  pub stay : (number : ℕ) (text : List ℕ) → slice_get old number ≡ Some text → slice_get new number ≡ Some text
  pub few : length new ≤ length old + 1

-- the first n events of the trace were taken, those of open variables with the numbers of their locations
pub record HasTakenTo (trace : TraceData) (flags : List Bool) (n : ℕ) (locations : List (List ℕ)) (nearest : NearestRaces) : Type 0 where
  pub spots : List Spot
  pub searched : HasSearched (take n trace.events) spots nearest
  pub located : AreLocated (λ x. is_open flags x ≡ true) trace locations spots
  pub few : length locations ≤ n
