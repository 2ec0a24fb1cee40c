-- What a search has taken of a stream.
use Rattle.std.specs.Prelude.{◌≡◌, ◌⊎◌, ◌++◌, ◌∷◌, [], ◌+◌, ◌<◌, ◌≤◌, ◌^◌, ℕ, Bool, List, Some, All, length, map, slice_get}
use Rattle.shb_lines.specs.declared.event.Event.{Event}
use Rattle.shb_lines.specs.declared.event.Op.{Op}
use Rattle.shb_lines.specs.events.Discipline.{IsDisciplined}
use Rattle.shb_lines.specs.events.Race.{variable_at}
use Rattle.shb_lines.specs.events.Tests.{is_write}
use Rattle.shb_stamps.specs.Screen.{IsScreened}
use Rattle.shb_stamps.specs.Clocks.{IsStreamed}
use Rattle.shb_stamps.specs.declared.stream_clocks.StreamClocks.{StreamClocks}
use Rattle.shb_nearest.specs.Classes.{AreClasses}
use Rattle.shb_nearest.specs.Found.{IsFoundRace, ends_of, site_in}
use Rattle.shb_nearest.specs.Groups.{IsRun}
use Rattle.shb_nearest.specs.Late.{AreAccesses}
use Rattle.shb_nearest.specs.Nearest.{AreNearest}
use Rattle.shb_nearest.specs.Places.{ArePlaces}
use Rattle.shb_nearest.specs.Sites.{HaveAllSites}
use Rattle.shb_nearest.specs.declared.access.FoundAccess.{FoundAccess}
use Rattle.shb_nearest.specs.declared.access.FoundRace.{FoundRace}
use Rattle.shb_nearest.specs.declared.access.Spot.{Spot}
use Rattle.shb_nearest.specs.declared.groups.Groups.{Groups}
use Rattle.shb_nearest.specs.declared.log.Accesses.TheVariants.{Waiting}
use Rattle.shb_nearest.specs.declared.log.Entry.{Entry}
use Rattle.shb_nearest.specs.declared.search.NearestRaces.{NearestRaces}
use Rattle.shb_nearest.specs.declared.tables.Tables.{Tables}
use Rattle.shb_nearest.specs.declared.tables.Variable.{Variable}

-- one event more can be taken: the clocks of a stream number so many
abbrev pub HasRoom : List Event → Type 0
HasRoom past = length past + 1 < 2 ^ 32

-- what is kept of a variable before n
pub record IsVariable (trace : List Event) (spots : List Spot) (x n : ℕ) (entries : List Entry) (groups : List Groups) (variable : Variable) : Type 0 where
  pub accesses : AreAccesses trace spots x n entries groups variable.accesses
  pub run : IsRun trace x n variable.run
  pub screened : IsScreened trace x n variable.latest

-- the variables, those that have an access at least
pub record AreVariables (trace : List Event) (spots : List Spot) (n : ℕ) (entries : List Entry) (groups : List Groups) (variables : List Variable) : Type 0 where
  pub each : (x : ℕ) (variable : Variable) → slice_get variables x ≡ Some variable → IsVariable trace spots x n entries groups variable
  pub wide : (i x : ℕ) → i < n → variable_at trace i ≡ Some x → x < length variables

-- the variables that were there stay, and those that are new have no access
pub record AreMoreVariables (old new : List Variable) : Type 0 where
  pub longer : length old ≤ length new
  pub from : (x : ℕ) (variable : Variable) → slice_get new x ≡ Some variable → (slice_get old x ≡ Some variable) ⊎ ((length old ≤ x) × (variable.accesses ≡ Waiting 0))

-- the tables are those of the accesses before n
pub record AreTables (by_variable : Bool) (trace : List Event) (spots : List Spot) (n : ℕ) (tables : Tables) : Type 0 where
  pub classes : AreClasses trace spots n tables.opened.classes.newest.entries
  pub variables : AreVariables trace spots n tables.log.entries.items tables.opened.each.items tables.variables.items
  pub short : (length tables.log.entries.items ≤ n) × (length tables.opened.each.items ≤ n)
  pub places : ArePlaces by_variable trace spots n tables.places.races.entries
  pub sites : HaveAllSites by_variable tables.places.races.entries tables.opened.each.items

-- the event is the next one of a stream, with its operation, and what is found of it if it is an access
pub record IsNextEvent (past : List Event) (e : Event) (spots : List Spot) (clocks : StreamClocks) (op : Op) (access : FoundAccess) : Type 0 where
  pub disciplined : IsDisciplined (past ++ e ∷ [])
  pub room : HasRoom past
  pub streamed : IsStreamed past clocks
  pub event_is : access.event ≡ length past
  pub same_thread : e.thread ≡ access.thread
  pub same_op : e.op ≡ op
  pub writes_is : access.writes ≡ is_write op
  pub spot_is : slice_get spots access.event ≡ Some access.spot

-- the search has taken these events, with their spots, and tells places apart as it was asked to
pub record HasSearched (past : List Event) (spots : List Spot) (search : NearestRaces) : Type 0 where
  pub clocks : IsStreamed past search.clocks
  pub events_are : search.events ≡ length past
  pub as_many : length spots ≡ length past
  pub tables : AreTables search.by_variable past spots (length past) search.tables

-- the nearest race of each place, in order, and what is known of its accesses
pub record AreNearestRaces (by_variable : Bool) (past : List Event) (spots : List Spot) (races : List FoundRace) : Type 0 where
  pub nearest : AreNearest past (site_in by_variable past spots) (map ends_of races)
  pub accesses : All (IsFoundRace past spots) races
