-- The accesses that race with the next access.
use Rattle.std.specs.Prelude.{◌≡◌, ◌≢◌, ◌⊎◌, ◌+◌, ◌<◌, ◌≤◌, ◌++◌, ◌∷◌, [], ℕ, true, List, Some, Contains, length, map, drop, slice_get}
use Rattle.shb_lines.specs.declared.event.Event.{Event}
use Rattle.shb_lines.specs.events.Discipline.{IsDisciplined}
use Rattle.shb_lines.specs.events.Race.{Race}
use Rattle.shb_stamps.specs.Clocks.{IsStreamed}
use Rattle.shb_stamps.specs.declared.stream_clocks.StreamClocks.{StreamClocks}
use Rattle.shb_nearest.specs.Found.{IsFoundAccess, location_in}
use Rattle.shb_nearest.specs.Groups.{access_of}
use Rattle.shb_nearest.specs.declared.access.FoundAccess.{FoundAccess}
use Rattle.shb_nearest.specs.declared.access.Spot.{Spot}
use Rattle.shb_nearest.specs.Sites.{IsSettled}
use Rattle.shb_nearest.specs.declared.groups.Group.{Group}
use Rattle.shb_nearest.specs.declared.groups.Groups.{Groups}
use Rattle.shb_nearest.specs.declared.groups.KeptAccess.{KeptAccess}

-- the kept access, and so each before it, needs no look: it is one of the first `below` events of its thread, or before `since`
abbrev pub IsOver : KeptAccess → ℕ → ℕ → Type 0
IsOver kept below since = (kept.time ≤ below) ⊎ (kept.event < since)

-- the kept accesses from an index on need a look
pub record NeedLook (kept : List KeptAccess) (below since from : ℕ) : Type 0 where
  pub within : from ≤ length kept
  pub after : (k : ℕ) (a : KeptAccess) → from ≤ k → slice_get kept k ≡ Some a → (below < a.time) × (since ≤ a.event)

-- the index after the last kept access that needs no look
pub record IsFrom (kept : List KeptAccess) (below since from : ℕ) : Type 0 where
  pub need : NeedLook kept below since from
  pub stop : (k : ℕ) (a : KeptAccess) → k + 1 ≡ from → slice_get kept k ≡ Some a → IsOver a below since

-- one of the rivals is at the location of an access, and isn't before it
pub record IsCovered (rivals : List FoundAccess) (access : FoundAccess) : Type 0 where
  pub rival : FoundAccess
  pub there : Contains rivals rival
  pub location_is : rival.spot.location ≡ access.spot.location
  pub not_before : access.event ≤ rival.event

-- accesses came to the rivals, of which those may be left out that another one covers, or whose place with a later access at a location is known
pub record HasAdded (groups : Groups) (second : ℕ) (old new added : List FoundAccess) : Type 0 where
  pub stay : (a : FoundAccess) → IsCovered old a → IsCovered new a
  pub from : (a : FoundAccess) → Contains new a → Contains old a ⊎ Contains added a
  pub covers : (a : FoundAccess) → Contains added a → IsCovered new a ⊎ IsSettled groups a.spot.location second

-- what a group keeps after the last one that needs no look came to the rivals
pub record HasMet (groups : Groups) (second : ℕ) (group : Group) (below since : ℕ) (old new : List FoundAccess) : Type 0 where
  pub from : ℕ
  pub from_is : IsFrom group.kept.items below since from
  pub more : HasAdded groups second old new (map (access_of group.thread group.writes) (drop from group.kept.items))

-- accesses of the group are of another thread than the access, and one of both writes
pub record CanRace (group : Group) (access : FoundAccess) : Type 0 where
  pub other : group.thread ≢ access.thread
  pub one_writes : (group.writes ≡ true) ⊎ (access.writes ≡ true)

-- the access is the next event of a stream
pub record IsNextAccess (past : List Event) (e : Event) (spots : List Spot) (x : ℕ) (clocks : StreamClocks) (access : FoundAccess) : Type 0 where
  pub disciplined : IsDisciplined (past ++ e ∷ [])
  pub streamed : IsStreamed past clocks
  pub event_is : access.event ≡ length past
  pub thread_is : e.thread ≡ access.thread
  pub own : IsFoundAccess (past ++ e ∷ []) spots x access

-- what a group keeps from `since` on that races with the access came to the rivals, or its place is known, and nothing that doesn't race
pub record HasMetGroup (trace : List Event) (spots : List Spot) (x : ℕ) (groups : Groups) (access : FoundAccess) (since : ℕ) (group : Group) (old new : List FoundAccess) : Type 0 where
  pub stay : (a : FoundAccess) → IsCovered old a → IsCovered new a
  pub from : (a : FoundAccess) → Contains new a → Contains old a ⊎ (IsFoundAccess trace spots x a × Race trace a.event access.event)
  pub met : (a : KeptAccess) → Contains group.kept.items a → since ≤ a.event → Race trace a.event access.event → IsCovered new (access_of group.thread group.writes a) ⊎ IsSettled groups a.spot.location access.spot.location

-- the same of several groups
pub record AreMet (trace : List Event) (spots : List Spot) (x : ℕ) (all : Groups) (access : FoundAccess) (since : ℕ) (groups : List Group) (rivals : List FoundAccess) : Type 0 where
  pub races : (a : FoundAccess) → Contains rivals a → IsFoundAccess trace spots x a × Race trace a.event access.event
  pub met : (g : Group) (a : KeptAccess) → Contains groups g → Contains g.kept.items a → since ≤ a.event → Race trace a.event access.event → IsCovered rivals (access_of g.thread g.writes a) ⊎ IsSettled all a.spot.location access.spot.location

-- accesses that race with an access: for each that does, from `since` on, one at its location that isn't before it, or its place is known
pub record AreRivals (trace : List Event) (spots : List Spot) (x : ℕ) (groups : Groups) (access : FoundAccess) (since : ℕ) (rivals : List FoundAccess) : Type 0 where
  pub races : (a : FoundAccess) → Contains rivals a → IsFoundAccess trace spots x a × Race trace a.event access.event
  pub each : (i l : ℕ) → Race trace i access.event → location_in spots i ≡ Some l → since ≤ i → ((a : FoundAccess) × Contains rivals a × (a.spot.location ≡ l) × (i ≤ a.event)) ⊎ IsSettled groups l access.spot.location
