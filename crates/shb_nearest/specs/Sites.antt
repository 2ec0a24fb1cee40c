-- The locations of a variable with groups, and of which two of them the place is known.
use Rattle.std.specs.Prelude.{◌≡◌, ◌⊎◌, ◌<◌, ◌≤◌, ◌^◌, ℕ, Bool, true, List, Some, Box, Contains, length, slice_get, slice_index_or, if◌then◌else◌}
use Rattle.std.specs.FinSet as set
use Rattle.std.specs.Global.{Global}
use Rattle.shb_numbers.specs.Numbers.{Numbers}
use Rattle.shb_lines.specs.declared.event.Event.{Event}
use Rattle.shb_nearest.specs.Places.{ArePlaces, IsKnown, PlaceEntry, variable_part}
use Rattle.shb_nearest.specs.declared.access.Spot.{Spot}
use Rattle.shb_nearest.specs.declared.groups.Group.{Group}
use Rattle.shb_nearest.specs.declared.groups.Groups.{Groups}
use Rattle.shb_nearest.specs.declared.groups.KeptAccess.{KeptAccess}
use Rattle.shb_nearest.specs.declared.late.Late.{Late}
use Rattle.shb_nearest.specs.declared.places.Place.{Place}
use Rattle.shb_nearest.specs.declared.sites.Site.{Site}
use Rattle.shb_nearest.specs.declared.sites.Sites.{Sites}

-- the site of a number is at the location
pub record IsSite (all : List Site) (location number : ℕ) : Type 0 where
  pub site : Site
  pub there : slice_get all number ≡ Some site
  pub location_is : site.location ≡ location

-- a set has a site of the location, to which an access has come that isn't before the event
pub record IsIn (all : List Site) (numbers : Numbers) (location event : ℕ) : Type 0 where
  pub number : ℕ
  pub site : Site
  pub there : slice_get all number ≡ Some site
  pub location_is : site.location ≡ location
  pub not_before : event ≤ site.newest
  pub among : set.contains numbers number ≡ true

-- the sites of a variable's writes, or of its reads
abbrev pub of_kind : Sites → Bool → Numbers
of_kind sites writes = if writes then sites.writes else sites.reads

-- the sites of the group at an index
abbrev pub of_group : Sites → ℕ → Numbers
of_group sites at = slice_index_or sites.of_groups.items at set.empty

-- an access of the group at an index, of a kind, is noted
pub record IsNoted (sites : Sites) (at : ℕ) (writes : Bool) (location event : ℕ) : Type 0 where
  pub kind : IsIn sites.all.items (of_kind sites writes) location event
  pub group : IsIn sites.all.items (of_group sites at) location event

-- there are so few sites that numbers tell them apart
abbrev pub AreFew : Sites → Type 0
AreFew sites = length sites.all.items < 2 ^ 32

-- some accesses that the group at an index keeps are noted
abbrev pub AreNoted : Sites → ℕ → Bool → List KeptAccess → Type 0
AreNoted sites at writes kept = AreFew sites → (a : KeptAccess) → Contains kept a → IsNoted sites at writes a.spot.location a.event

-- what some groups keep is noted
abbrev pub AreAllNoted : Sites → List Group → Type 0
AreAllNoted sites groups = (at : ℕ) (g : Group) → slice_get groups at ≡ Some g → AreNoted sites at g.writes g.kept.items

-- what was noted still is
pub record IsAfter (old new : Sites) : Type 0 where
  pub longer : length old.all.items ≤ length new.all.items
  pub stay : (at : ℕ) (writes : Bool) (location event : ℕ) → IsNoted old at writes location event → IsNoted new at writes location event

-- the second of two locations has a site with which one of the first is paired
pub record IsPair (all : List Site) (first second : ℕ) : Type 0 where
  pub later : ℕ
  pub site : Site
  pub there : slice_get all later ≡ Some site
  pub location_is : site.location ≡ second
  pub earlier : ℕ
  pub earlier_is : IsSite all first earlier
  pub paired : set.contains site.paired earlier ≡ true

-- the place of two locations, of accesses of the variable
abbrev pub place_at : Bool → ℕ → ℕ → ℕ → Place
place_at by_variable x first second = record { first = first; second = second; variable = variable_part by_variable x }

-- the sites that are paired with a site are sites, and their place is known
abbrev pub ArePaired : Bool → ℕ → List PlaceEntry → List Site → Type 0
ArePaired by_variable x entries all = (k : ℕ) (site : Site) → slice_get all k ≡ Some site → (i : ℕ) → set.contains site.paired i ≡ true → (other : Site) × (slice_get all i ≡ Some other) × IsKnown entries (place_at by_variable x other.location site.location)

-- the place of two locations is known by the sites
pub record IsSettled (groups : Groups) (first second : ℕ) : Type 0 where
  pub sites : Box Sites Global
  pub sites_are : groups.sites ≡ Some sites
  pub pair : IsPair sites.value.all.items first second

-- with the second location each location of a set is paired at which there are accesses from `since` on
pub record IsDone (all : List Site) (numbers : Numbers) (second since : ℕ) : Type 0 where
  pub few : length all < 2 ^ 32
  pub pairs : (first event : ℕ) → IsIn all numbers first event → since ≤ event → IsPair all first second

-- an access that the group at an index is to keep is noted
abbrev pub HasNoted : Groups → ℕ → Late → Type 0
HasNoted groups at late = (sites : Box Sites Global) → groups.sites ≡ Some sites → AreFew sites.value → IsNoted sites.value at late.writes late.location late.event

-- what the groups keep is noted, where there are sites
abbrev pub AreMarked : Groups → Type 0
AreMarked groups = (sites : Box Sites Global) → groups.sites ≡ Some sites → AreAllNoted sites.value groups.each.items

-- what the groups keep is noted, and of sites that are paired the place is known
pub record HaveSites (by_variable : Bool) (x : ℕ) (entries : List PlaceEntry) (groups : Groups) : Type 0 where
  pub marked : AreMarked groups
  pub paired : (sites : Box Sites Global) → groups.sites ≡ Some sites → ArePaired by_variable x entries sites.value.all.items

-- the groups of each variable have their sites
abbrev pub HaveAllSites : Bool → List PlaceEntry → List Groups → Type 0
HaveAllSites by_variable entries each = (at : ℕ) (groups : Groups) → slice_get each at ≡ Some groups → HaveSites by_variable groups.variable entries groups

-- places came, so that they are those of the races before n, and the groups have their sites
pub record HasOffered (by_variable : Bool) (trace : List Event) (spots : List Spot) (n : ℕ) (old new : List PlaceEntry) (groups : Groups) : Type 0 where
  pub places : ArePlaces by_variable trace spots n new
  pub stay : (place : Place) → IsKnown old place → IsKnown new place
  pub sites : HaveSites by_variable groups.variable new groups

-- sets came up to an index, all empty
pub record HasSets (old new : List Numbers) (at : ℕ) : Type 0 where
  pub room : at < length new
  pub stay : (k : ℕ) → slice_index_or new k set.empty ≡ slice_index_or old k set.empty

-- an access came to the site of a number, which is at its location
pub record HasSite (old new : List Site) (location event number : ℕ) : Type 0 where
  pub longer : length old ≤ length new
  pub stay : (k : ℕ) (site : Site) → slice_get old k ≡ Some site → (later : Site) × (slice_get new k ≡ Some later) × (later.location ≡ site.location) × (site.newest ≤ later.newest)
  pub from : (k : ℕ) (later : Site) → slice_get new k ≡ Some later → ((site : Site) × (slice_get old k ≡ Some site) × (later.location ≡ site.location) × (later.paired ≡ site.paired)) ⊎ (later.paired ≡ set.empty)
  pub there : length new < 2 ^ 32 → (site : Site) × (slice_get new number ≡ Some site) × (site.location ≡ location) × (event ≤ site.newest)

-- only sites changed
pub record HasSetsOf (old new : Sites) : Type 0 where
  pub writes : new.writes ≡ old.writes
  pub reads : new.reads ≡ old.reads
  pub of_groups : new.of_groups.items ≡ old.of_groups.items
