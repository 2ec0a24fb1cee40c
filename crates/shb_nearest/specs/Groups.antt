-- The accesses that are kept of a variable, by thread and kind.
use Rattle.std.specs.Prelude.{◌≡◌, ◌⊎◌, ◌<◌, ◌≤◌, ◌++◌, ◌∷◌, ℕ, Bool, List, [], Some, All, AllPairs, Contains, slice_get}
use Rattle.shb_lines.specs.declared.event.Event.{Event}
use Rattle.shb_lines.specs.events.Discipline.{local_time}
use Rattle.shb_lines.specs.events.Events.{thread_at}
use Rattle.shb_lines.specs.events.Race.{variable_at}
use Rattle.shb_nearest.specs.Classes.{HasLastOf, IsLastOf, IsOfClass, is_newest_in}
use Rattle.shb_nearest.specs.Found.{IsFoundAccess}
use Rattle.shb_nearest.specs.declared.access.FoundAccess.{FoundAccess}
use Rattle.shb_nearest.specs.declared.access.Spot.{Spot}
use Rattle.shb_nearest.specs.declared.classes.Class.{Class}
use Rattle.shb_nearest.specs.declared.groups.Group.{Group}
use Rattle.shb_nearest.specs.declared.groups.KeptAccess.{KeptAccess}
use Rattle.shb_nearest.specs.declared.groups.Run.{Run}

-- a kept access with what its group tells
abbrev pub access_of : ℕ → Bool → KeptAccess → FoundAccess
access_of thread writes kept = record { event = kept.event; thread = thread; writes = writes; spot = kept.spot }

-- the class of an access of a variable
abbrev pub class_of : ℕ → FoundAccess → Class
class_of x access = record { variable = x; location = access.spot.location; thread = access.thread; writes = access.writes }

-- the kept access is one before n, and has its local time
pub record IsKept (trace : List Event) (spots : List Spot) (x n thread : ℕ) (writes : Bool) (kept : KeptAccess) : Type 0 where
  pub own : IsFoundAccess trace spots x (access_of thread writes kept)
  pub time_is : kept.time ≡ local_time trace thread kept.event
  pub past : kept.event < n

-- one access is before another
abbrev pub IsEarlier : KeptAccess → KeptAccess → Type 0
IsEarlier a b = a.event < b.event

-- what a group keeps are accesses before n of its thread and kind, rising
pub record IsGroup (trace : List Event) (spots : List Spot) (x n : ℕ) (group : Group) : Type 0 where
  pub each : All (IsKept trace spots x n group.thread group.writes) group.kept.items
  pub rising : AllPairs IsEarlier group.kept.items

-- one of the groups keeps the access k of the class
pub record KeepsAccess (groups : List Group) (class : Class) (k : ℕ) : Type 0 where
  pub group : Group
  pub there : Contains groups group
  pub thread_is : group.thread ≡ class.thread
  pub writes_is : group.writes ≡ class.writes
  pub kept : KeptAccess
  pub among : Contains group.kept.items kept
  pub event_is : kept.event ≡ k
  pub location_is : kept.spot.location ≡ class.location

-- the groups of a variable, which keep those of its accesses before n instead of which no later one before m is enough
pub record AreGroups (trace : List Event) (spots : List Spot) (x n m : ℕ) (groups : List Group) : Type 0 where
  pub each : All (IsGroup trace spots x n) groups
  pub covers : (c : Class) (k : ℕ) → c.variable ≡ x → IsLastOf trace spots m c k → k < n → KeepsAccess groups c k

-- the group has the accesses by a thread of a kind
pub record IsOfGroup (group : Group) (thread : ℕ) (writes : Bool) : Type 0 where
  pub thread_is : group.thread ≡ thread
  pub writes_is : group.writes ≡ writes

-- a group of the thread and the kind is there, the others stay, and one that is new keeps nothing
pub record HasGroupAt (old new : List Group) (thread : ℕ) (writes : Bool) (at : ℕ) : Type 0 where
  pub group : Group
  pub there : slice_get new at ≡ Some group
  pub own : IsOfGroup group thread writes
  pub stay : (g : Group) → Contains old g → Contains new g
  pub from : (k : ℕ) (g : Group) → slice_get new k ≡ Some g → (slice_get old k ≡ Some g) ⊎ (g.kept.items ≡ [])

-- whether a kept access is the newest of its class
abbrev pub is_newest_kept : List (Class × ℕ) → ℕ → ℕ → Bool → KeptAccess → Bool
is_newest_kept newest x thread writes kept = is_newest_in newest (class_of x (access_of thread writes kept)) kept.event

-- a table has the last of some kept accesses at each location
abbrev pub HasLast : List (Class × ℕ) → ℕ → ℕ → Bool → List KeptAccess → Type 0
HasLast newest x thread writes kept = HasLastOf (λ (a : KeptAccess). a.event) (λ (a : KeptAccess). class_of x (access_of thread writes a)) newest kept

-- the group keeps an access more: of it and those before at least the last at each location, in their order
pub record HasKept (access : KeptAccess) (old new : Group) : Type 0 where
  pub own : IsOfGroup new old.thread old.writes
  pub from : (a : KeptAccess) → Contains new.kept.items a → Contains (old.kept.items ++ access ∷ []) a
  pub rising : AllPairs IsEarlier (old.kept.items ++ access ∷ []) → AllPairs IsEarlier new.kept.items
  pub last : AllPairs IsEarlier (old.kept.items ++ access ∷ []) → (a : KeptAccess) → Contains (old.kept.items ++ access ∷ []) a → ((b : KeptAccess) → Contains (old.kept.items ++ access ∷ []) b → b.spot.location ≡ a.spot.location → b.event ≤ a.event) → Contains new.kept.items a

-- an access of the kept ones at a location, or 0
abbrev pub IsAt : List KeptAccess → ℕ → ℕ → Type 0
IsAt kept location event = (event ≡ 0) ⊎ ((a : KeptAccess) × Contains kept a × (a.spot.location ≡ location) × (a.event ≡ event))

-- an earlier access of the class of the access, or 0
abbrev pub IsSince : List Event → List Spot → ℕ → FoundAccess → ℕ → Type 0
IsSince trace spots x access since = (since ≡ 0) ⊎ (IsOfClass trace spots (class_of x access) since × (since < access.event))

-- of the events before n, from the start of the run on, its thread alone accessed the variable
pub record IsRun (trace : List Event) (x n : ℕ) (run : Run) : Type 0 where
  pub alone : (i : ℕ) → run.start ≤ i → i < n → variable_at trace i ≡ Some x → thread_at trace i ≡ Some run.thread
