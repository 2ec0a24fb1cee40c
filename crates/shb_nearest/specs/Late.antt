-- The accesses of a variable: those that wait in the log, or its groups.
use Rattle.std.specs.Prelude.{◌≡◌, ◌≢◌, ◌⊎◌, ◌+◌, ◌<◌, ◌≤◌, ◌∷◌, ℕ, true, List, [], Some, All, AllPairs, Contains, reverse, slice_get}
use Rattle.shb_lines.specs.declared.event.Event.{Event}
use Rattle.shb_lines.specs.events.Discipline.{local_time}
use Rattle.shb_lines.specs.events.Order.{BelowPred}
use Rattle.shb_lines.specs.events.Race.{variable_at}
use Rattle.shb_nearest.specs.Classes.{IsLastOf}
use Rattle.shb_nearest.specs.Found.{IsFoundAccess}
use Rattle.shb_nearest.specs.Groups.{AreGroups}
use Rattle.shb_nearest.specs.declared.access.FoundAccess.{FoundAccess}
use Rattle.shb_nearest.specs.declared.access.Spot.{Spot}
use Rattle.shb_nearest.specs.declared.classes.Class.{Class}
use Rattle.shb_nearest.specs.declared.groups.Groups.{Groups}
use Rattle.shb_nearest.specs.declared.late.Late.{Late}
use Rattle.shb_nearest.specs.declared.log.Accesses.{Accesses}
use Rattle.shb_nearest.specs.declared.log.Accesses.TheVariants.{Grouped, Waiting}
use Rattle.shb_nearest.specs.declared.log.Entry.{Entry}

-- the access, with where it stands
abbrev pub access_in : Late → FoundAccess
access_in late = record { event = late.event; thread = late.thread; writes = late.writes; spot = record { location = late.location; barred = late.barred } }

-- the access is of the location and the kind of an earlier one, and of its thread or after all
pub record IsInstead (late earlier : Late) : Type 0 where
  pub location_is : late.location ≡ earlier.location
  pub writes_is : late.writes ≡ earlier.writes
  pub after : (late.after_all ≡ true) ⊎ (late.thread ≡ earlier.thread)

-- one of some accesses is so instead of an earlier one
abbrev pub IsInsteadOne : List Late → Late → Type 0
IsInsteadOne late a = (b : Late) × Contains late b × IsInstead b a

-- the access is one of the variable, with its local time, and below its predecessor are all before it if it is said to be after all
pub record IsLate (trace : List Event) (spots : List Spot) (x : ℕ) (late : Late) : Type 0 where
  pub own : IsFoundAccess trace spots x (access_in late)
  pub time_is : late.time ≡ local_time trace late.thread late.event
  pub after : late.after_all ≡ true → (k : ℕ) → k < late.event → variable_at trace k ≡ Some x → BelowPred trace k late.event

-- and one from m on before n
pub record IsLateIn (trace : List Event) (spots : List Spot) (x m n : ℕ) (late : Late) : Type 0 where
  pub own : IsLate trace spots x late
  pub from : m ≤ late.event
  pub past : late.event < n

-- one access is before another
abbrev pub IsBefore : Late → Late → Type 0
IsBefore a b = a.event < b.event

-- accesses of the variable from m on before n, in their order: those are among them instead of which no later one before n is enough
pub record AreLate (trace : List Event) (spots : List Spot) (x n m : ℕ) (late : List Late) : Type 0 where
  pub within : m ≤ n
  pub each : All (IsLateIn trace spots x m n) late
  pub rising : AllPairs IsBefore late
  pub covers : (c : Class) (k : ℕ) → c.variable ≡ x → IsLastOf trace spots n c k → m ≤ k → (a : Late) × Contains late a × (a.event ≡ k)

-- the entry at a place of the log; places count from 1
pub record IsEntryAt (entries : List Entry) (place : ℕ) (entry : Entry) : Type 0 where
  pub index : ℕ
  pub place_is : place ≡ index + 1
  pub there : slice_get entries index ≡ Some entry

-- the accesses from this place back, each at an earlier place than the one after it
abbrev pub IsChain : List Entry → ℕ → List Late → Type 0
IsChain entries place [] = place ≡ 0
IsChain entries place (a ∷ late) = (before : ℕ) × IsEntryAt entries place (record { late = a; before = before }) × (before < place) × IsChain entries before late

-- an entry was written at a place, and those at other places stay
pub record HasWritten (old new : List Entry) (place : ℕ) (entry : Entry) : Type 0 where
  pub there : (gone : Entry) → IsEntryAt old place gone → IsEntryAt new place entry
  pub others : (other : ℕ) (e : Entry) → other ≢ place → IsEntryAt old other e → IsEntryAt new other e

-- an access came behind those from a place back, and those of other places stay
pub record HasPut (old new : List Entry) (newest : ℕ) (a : Late) (place : ℕ) : Type 0 where
  pub longer : (late : List Late) → IsChain old newest late → IsChain new place (a ∷ late)
  pub stay : (other : ℕ) (late : List Late) → IsChain old other late → IsChain new other late

-- all accesses of the variable before n wait, the newest at this place
pub record AreWaiting (trace : List Event) (spots : List Spot) (x n : ℕ) (entries : List Entry) (place : ℕ) : Type 0 where
  pub late : List Late
  pub chain : IsChain entries place late
  pub are : AreLate trace spots x n 0 (reverse late)

-- the accesses of other variables still wait
abbrev pub StayWaiting : List Event → List Spot → ℕ → List Entry → List Entry → Type 0
StayWaiting trace spots x old new = (y n place : ℕ) → y ≢ x → AreWaiting trace spots y n old place → AreWaiting trace spots y n new place

-- the groups of the variable at an index have its accesses before n
pub record HaveGroups (trace : List Event) (spots : List Spot) (x n : ℕ) (each : List Groups) (at : ℕ) : Type 0 where
  pub groups : Groups
  pub there : slice_get each at ≡ Some groups
  pub own : groups.variable ≡ x
  pub are : AreGroups trace spots x n n groups.each.items

-- the groups of other variables stay
abbrev pub StayGroups : ℕ → List Groups → List Groups → Type 0
StayGroups x old new = (at : ℕ) (groups : Groups) → groups.variable ≢ x → slice_get old at ≡ Some groups → slice_get new at ≡ Some groups

-- the accesses of the variable before n wait, or are in its groups
abbrev pub AreAccesses : List Event → List Spot → ℕ → ℕ → List Entry → List Groups → Accesses → Type 0
AreAccesses trace spots x n entries each (Waiting place) = AreWaiting trace spots x n entries place
AreAccesses trace spots x n entries each (Grouped at) = HaveGroups trace spots x n each at
