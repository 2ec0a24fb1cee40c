-- The names behind the numbers of races that were found, what makes them those of a trace, and the text of their list report.
use Rattle.std.specs.Prelude.{◌≡◌, ◌<◌, ℕ, Bool, List, length, slice_get, is_some, Option, None, Some, if◌then◌else◌, ◌++◌, map}
use Rattle.std.specs.Bool.{then_some}
use Rattle.shb_lines.specs.events.Race.{variable_at}
use Rattle.shb_lines.specs.text.TraceData.{TraceData, call_line, location_after, location_of}
use Rattle.shb_format.specs.Places.{location_at}
use Rattle.shb_format.specs.Report.{ShownRace, blocks_from, front_bytes, line_of_event, tail_bytes}
use Rattle.shb_format.specs.AccessText.{access_kind}
use Rattle.shb_nearest.specs.declared.access.FoundAccess.{FoundAccess}
use Rattle.shb_nearest.specs.declared.access.FoundRace.{FoundRace}
use Rattle.shb_nearest.specs.declared.access.Spot.{Spot}
use Rattle.shb_scan.specs.declared.writing.ScanNames.{ScanNames}

-- the numbers of an access, and of its variable, have names
pub record HasNames (names : ScanNames) (x : ℕ) (access : FoundAccess) : Type 0 where
  pub thread : access.thread < length names.threads.now
  pub variable : x < length names.variables.now
  pub location : access.spot.location < length names.locations.now

-- the line of an access is made of the names of its thread, of its variable and of its location
pub record IsMadeOf (names : ScanNames) (trace : TraceData) (x : ℕ) (access : FoundAccess) : Type 0 where
  pub thread : List ℕ
  pub name : List ℕ
  pub location : List ℕ
  pub thread_is : slice_get names.threads.now access.thread ≡ Some thread
  pub name_is : slice_get names.variables.now x ≡ Some name
  pub location_is : slice_get names.locations.now access.spot.location ≡ Some location
  pub line : line_of_event trace access.event ≡ call_line thread (access_kind access.writes) name (then_some access.spot.barred location)

-- the spot of an access with this line: the number of its location, and whether the line has a second bar
pub record IsSpotOf (locations : List (List ℕ)) (line : List ℕ) (spot : Spot) : Type 0 where
  pub location : slice_get locations spot.location ≡ Some (location_of line)
  pub barred : spot.barred ≡ is_some (location_after line)

-- the spots of the accesses of a trace are those of their lines; other events' say nothing
abbrev pub AreSpots : TraceData → List (List ℕ) → List Spot → Type 0
AreSpots trace locations spots = (k x : ℕ) (spot : Spot) → variable_at trace.events k ≡ Some x → slice_get spots k ≡ Some spot → IsSpotOf locations (line_of_event trace k) spot

-- the spots of the accesses of these variables of a trace have the numbers of their locations
abbrev pub AreLocated : (ℕ → Type 0) → TraceData → List (List ℕ) → List Spot → Type 0
AreLocated IsAsked trace locations spots = (k x : ℕ) (spot : Spot) → variable_at trace.events k ≡ Some x → IsAsked x → slice_get spots k ≡ Some spot → slice_get locations spot.location ≡ Some (location_at trace k)

-- what is said of an access, of both of a race
pub record HasRaceNames (names : ScanNames) (race : FoundRace) : Type 0 where
  pub first : HasNames names race.variable race.first
  pub second : HasNames names race.variable race.second

pub record IsRaceMadeOf (names : ScanNames) (trace : TraceData) (race : FoundRace) : Type 0 where
  pub first : IsMadeOf names trace race.variable race.first
  pub second : IsMadeOf names trace race.variable race.second

-- the location of an access has this number
abbrev pub IsLocated : List (List ℕ) → TraceData → FoundAccess → Type 0
IsLocated locations trace access = slice_get locations access.spot.location ≡ Some (location_at trace access.event)

pub record IsRaceLocated (locations : List (List ℕ)) (trace : TraceData) (race : FoundRace) : Type 0 where
  pub first : IsLocated locations trace race.first
  pub second : IsLocated locations trace race.second

-- a race without a schedule
abbrev pub alone : ℕ × ℕ → ShownRace
alone race = record { pair = race; schedule = None }

-- the blocks of races without schedules, numbered from 1
abbrev pub blocks_of : TraceData → List (ℕ × ℕ) → List ℕ
blocks_of trace races = blocks_from trace 1 (map alone races)

-- the whole text, with these races
abbrev pub listing_bytes : TraceData → List (ℕ × ℕ) → List ℕ
listing_bytes trace races = front_bytes trace races ++ (blocks_of trace races ++ tail_bytes)
