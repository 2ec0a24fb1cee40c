-- The entries of a variable that race with an access: of each thread some that follow each other.
use Rattle.std.specs.Prelude.{◌≡◌, ◌<◌, ◌≤◌, ◌^◌, ◌&&◌, ℕ, Bool, true, false, List, Some, All, AllPairs, count_by, length, nat_lt, not, slice_get, slice_index_or, take}
use Rattle.std.specs.List.{list_any}
use Rattle.shb_lines.specs.declared.event.Event.{Event}
use Rattle.shb_lines.specs.events.Order.{IsBelowPredCount}
use Rattle.shb_lines.specs.events.Reach.{is_race}
use Rattle.shb_counts.specs.declared.accesses.Entry.{Entry}
use Rattle.shb_counts.specs.declared.finder.Limit.{Limit}
use Rattle.shb_counts.specs.declared.finder.Limit.TheVariants.{Above, From}
use Rattle.shb_counts.specs.declared.finder.Window.{Window}

-- whether a window has an index
abbrev pub has_index : ℕ → Window → Bool
has_index j window = not (nat_lt j window.start) && nat_lt j window.end

-- whether an index is in one of the windows
abbrev pub is_within : List Window → ℕ → Bool
is_within windows j = list_any (has_index j) windows

-- these windows, each after the one before, have the entries that race with the event, and no others
pub record AreWindows (trace : List Event) (e : ℕ) (entries : List Entry) (windows : List Window) : Type 0 where
  pub within : All (λ window. (window.start ≤ window.end) × (window.end ≤ length entries)) windows
  pub apart : AllPairs (λ one next. one.end ≤ next.start) windows
  pub racing : (j : ℕ) (entry : Entry) → slice_get entries j ≡ Some entry → is_race trace entry.event e ≡ is_within windows j

-- these windows, each after the one before, have those of the first n entries that pass a test, and no others
pub record AreWindowsUpTo (test : Entry → Bool) (entries : List Entry) (n : ℕ) (windows : List Window) : Type 0 where
  pub within : All (λ window. (window.start ≤ window.end) × (window.end ≤ n)) windows
  pub apart : AllPairs (λ one next. one.end ≤ next.start) windows
  pub passing : (j : ℕ) (entry : Entry) → slice_get entries j ≡ Some entry → j < n → test entry ≡ is_within windows j

-- so many of the first entries race with the event, and these are their windows
pub record IsLooked (trace : List Event) (e : ℕ) (entries : List Entry) (from races : ℕ) (windows : List Window) : Type 0 where
  pub within : from ≤ length entries
  pub few : from < 2 ^ 32
  pub found : AreWindowsUpTo (λ entry. is_race trace entry.event e) entries from windows
  pub counted : races ≡ count_by (λ entry. is_race trace entry.event e) (take from entries)

-- from one index up to another events and local times don't fall
pub record AreRising (entries : List Entry) (from to : ℕ) : Type 0 where
  pub forward : from ≤ to
  pub within : to ≤ length entries
  pub rise : (g h : ℕ) (entry later : Entry) → slice_get entries g ≡ Some entry → slice_get entries h ≡ Some later → from ≤ g → g ≤ h → h < to → (entry.event ≤ later.event) × (entry.time ≤ later.time)

-- whether an entry is past a limit: from an event on, or above a local time
abbrev pub is_past : Limit → Entry → Bool
is_past (From event) entry = not (nat_lt entry.event event)
is_past (Above time) entry = nat_lt time entry.time

-- of the entries from one index up to another, those from the first one on are past the limit, and those before it aren't
pub record IsFirst (limit : Limit) (entries : List Entry) (from to first : ℕ) : Type 0 where
  pub begins : from ≤ first
  pub ends : first ≤ to
  pub before : (g : ℕ) (entry : Entry) → slice_get entries g ≡ Some entry → from ≤ g → g < first → is_past limit entry ≡ false
  pub after : (g : ℕ) (entry : Entry) → slice_get entries g ≡ Some entry → first ≤ g → g < to → is_past limit entry ≡ true

-- a window has those that pass a test, from one index up to another
pub record IsWindow (test : Entry → Bool) (entries : List Entry) (from to : ℕ) (window : Window) : Type 0 where
  pub begins : from ≤ window.start
  pub forward : window.start ≤ window.end
  pub ends : window.end ≤ to
  pub passing : (j : ℕ) (entry : Entry) → slice_get entries j ≡ Some entry → from ≤ j → j < to → test entry ≡ has_index j window

-- whether an entry is before an event, and above a local time
abbrev pub is_between : ℕ → ℕ → Entry → Bool
is_between event time entry = nat_lt entry.event event && nat_lt time entry.time

-- how many events of each of the first threads are below the predecessor of an event
abbrev pub AreBelow : List Event → ℕ → List ℕ → Type 0
AreBelow trace e below = (t : ℕ) → t < length below → IsBelowPredCount trace t e (slice_index_or below t 0)
