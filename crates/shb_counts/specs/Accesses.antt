-- The accesses of open variables as they are kept: by variable and thread, and in the order in which their races are counted.
use Rattle.std.specs.Prelude.{◌≡◌, ◌<◌, ◌≤◌, ◌⊎◌, ◌&&◌, ◌||◌, ℕ, Bool, true, false, List, Some, All, AllPairs, cond, length, map, slice_get}
use Rattle.std.specs.List.Sorted.{IsPermutation}
use Rattle.shb_lines.specs.declared.event.Event.{Event}
use Rattle.shb_lines.specs.events.Discipline.{local_time}
use Rattle.shb_lines.specs.events.Events.{thread_at}
use Rattle.shb_lines.specs.events.Race.{variable_at}
use Rattle.shb_lines.specs.events.Reach.{numbers_where, writes_at}
use Rattle.shb_stamps.specs.Accesses.{accesses_at}
use Rattle.shb_stamps.specs.Open.{accesses_open, is_open}
use Rattle.shb_counts.specs.Numbered.{number_in}
use Rattle.shb_counts.specs.declared.accesses.Access.{Access}
use Rattle.shb_counts.specs.declared.accesses.Accesses.{Accesses}
use Rattle.shb_counts.specs.declared.accesses.Entries.{Entries}
use Rattle.shb_counts.specs.declared.accesses.Entry.{Entry}

-- the event is this access, and its location has this number
pub record IsAccess (trace : List Event) (numbers : List ℕ) (access : Access) : Type 0 where
  pub in_range : access.event < length trace
  pub thread : thread_at trace access.event ≡ Some access.thread
  pub variable : variable_at trace access.event ≡ Some access.variable
  pub writes : writes_at trace access.variable access.event ≡ access.writes
  pub location : number_in numbers access.event ≡ access.location

-- an event by its thread, with its local time and the number of its location
pub record IsEntry (trace : List Event) (numbers : List ℕ) (entry : Entry) : Type 0 where
  pub thread : thread_at trace entry.event ≡ Some entry.thread
  pub time : local_time trace entry.thread entry.event ≡ entry.time
  pub location : number_in numbers entry.event ≡ entry.location

-- the accesses of x that one which writes or reads conflicts with, if another thread makes it: all, or those that write
abbrev pub rivals : List Event → ℕ → Bool → List ℕ
rivals trace x writes = numbers_where (λ i. accesses_at trace x i && (writes || writes_at trace x i)) (length trace)

-- the entries of a thread stand together, rising, and each says where they end; no entry from one on is below its least event
pub record AreGrouped (entries : List Entry) : Type 0 where
  pub ends : (g : ℕ) (entry : Entry) → slice_get entries g ≡ Some entry → (g < entry.end) × (entry.end ≤ length entries)
  pub same : (g h : ℕ) (entry later : Entry) → slice_get entries g ≡ Some entry → slice_get entries h ≡ Some later → g ≤ h → h < entry.end → (later.thread ≡ entry.thread) × (later.end ≡ entry.end)
  pub rising : (g h : ℕ) (entry later : Entry) → slice_get entries g ≡ Some entry → slice_get entries h ≡ Some later → g < h → h < entry.end → entry.event < later.event
  pub together : (g h : ℕ) (entry later : Entry) → slice_get entries g ≡ Some entry → slice_get entries h ≡ Some later → g ≤ h → later.thread ≡ entry.thread → h < entry.end
  pub least : (g h : ℕ) (entry later : Entry) → slice_get entries g ≡ Some entry → slice_get entries h ≡ Some later → g ≤ h → entry.least ≤ later.event

-- these are the accesses of x of one kind, each once
pub record AreEntries (trace : List Event) (numbers : List ℕ) (x : ℕ) (writes : Bool) (entries : List Entry) : Type 0 where
  pub events : IsPermutation (map (λ entry. entry.event) entries) (rivals trace x writes)
  pub each : All (IsEntry trace numbers) entries
  pub grouped : AreGrouped entries

-- those of both kinds
pub record HasEntries (trace : List Event) (numbers : List ℕ) (x : ℕ) (entries : Entries) : Type 0 where
  pub all : AreEntries trace numbers x true entries.all.items
  pub writes : AreEntries trace numbers x false entries.writes.items

-- the entries that an access which writes or reads conflicts with
abbrev pub against : Entries → Bool → List Entry
against entries writes = cond writes entries.all.items entries.writes.items

-- one access stands before another: by variable, location and kind, then by event
abbrev pub StandsBefore : Access → Access → Type 0
StandsBefore a b = (a.variable < b.variable) ⊎ ((a.variable ≡ b.variable) × ((a.location < b.location) ⊎ ((a.location ≡ b.location)
    × (((a.writes ≡ false) × (b.writes ≡ true)) ⊎ ((a.writes ≡ b.writes) × (a.event < b.event))))))

-- the accesses of open variables: those of each variable, and all of them, each once, in that order
pub record AreAccesses (trace : List Event) (flags : List Bool) (numbers : List ℕ) (accesses : Accesses) : Type 0 where
  pub entries : (x : ℕ) (entries : Entries) → is_open flags x ≡ true → slice_get accesses.by_variable.items x ≡ Some entries → HasEntries trace numbers x entries
  pub each_variable : (x e : ℕ) → variable_at trace e ≡ Some x → x < length accesses.by_variable.items
  pub events : IsPermutation (map (λ access. access.event) accesses.list.items) (numbers_where (accesses_open flags trace) (length trace))
  pub each : All (IsAccess trace numbers) accesses.list.items
  pub in_order : AllPairs StandsBefore accesses.list.items
