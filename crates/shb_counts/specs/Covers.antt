-- Accesses of one variable at one location, added up: how many of them race with each entry, and the first of these.
use Rattle.std.specs.Prelude.{◌≡◌, ◌≢◌, ◌+◌, ◌<◌, ◌≤◌, ◌⊎◌, ◌^◌, ◌==◌, ◌&&◌, ℕ, true, false, cond, List, Some, All, AllPairs, Contains, count_by, filter, length, map, min, nat_lt, slice_get, slice_index_or, sum, take}
use Rattle.shb_lines.specs.declared.event.Event.{Event}
use Rattle.shb_lines.specs.declared.event.Pair.{Pair}
use Rattle.shb_lines.specs.events.Race.{variable_at}
use Rattle.shb_lines.specs.events.Reach.{is_race}
use Rattle.shb_counts.specs.Numbered.{number_in}
use Rattle.shb_counts.specs.Windows.{is_within}
use Rattle.shb_counts.specs.declared.accesses.Access.{Access}
use Rattle.shb_counts.specs.declared.accesses.Entry.{Entry}
use Rattle.shb_counts.specs.declared.cover.Cover.{Cover}
use Rattle.shb_counts.specs.declared.finder.Window.{Window}

-- the races of an event with these entries
abbrev pub racing_pairs : List Event → List Entry → ℕ → List Pair
racing_pairs trace entries e = map (λ entry. record { first = entry.event; second = e }) (filter (λ entry. is_race trace entry.event e) entries)

-- the races of these events with an entry
abbrev pub pairs_at : List Event → List ℕ → Entry → List Pair
pairs_at trace events entry = map (λ e. record { first = entry.event; second = e }) (filter (λ e. is_race trace entry.event e) events)

-- an event that accesses what this one accesses, at its location
pub record IsAt (trace : List Event) (numbers : List ℕ) (access : Access) (e : ℕ) : Type 0 where
  pub variable : variable_at trace e ≡ Some access.variable
  pub location : number_in numbers e ≡ access.location

-- of the events that race with i the first, or 0 where none does
pub record IsEarliest (trace : List Event) (events : List ℕ) (i first : ℕ) : Type 0 where
  pub none_races : first ≡ 0 → (e : ℕ) → Contains events e → is_race trace i e ≡ false
  pub there : 0 < first → Contains events first
  pub races : 0 < first → is_race trace i first ≡ true
  pub least : (e : ℕ) → Contains events e → is_race trace i e ≡ true → first ≤ e

-- of each index so many before it are covered: they have a first access
pub record AreRuns (first runs : List ℕ) : Type 0 where
  pub as_many : length runs ≡ length first + 1
  pub within : (k : ℕ) → slice_index_or runs k 0 ≤ k
  pub covered : (k j : ℕ) → j < k → k ≤ j + slice_index_or runs k 0 → 0 < slice_index_or first j 0

-- where a window has no first access yet, it is this one
pub record AreMarked (start end later : ℕ) (old new : List ℕ) : Type 0 where
  pub as_many : length new ≡ length old
  pub kept : (j : ℕ) → 0 < slice_index_or old j 0 → slice_index_or new j 0 ≡ slice_index_or old j 0
  pub outside : (j : ℕ) → (j < start) ⊎ (end ≤ j) → slice_index_or new j 0 ≡ slice_index_or old j 0
  pub marked : (j : ℕ) → start ≤ j → j < end → slice_index_or old j 0 ≡ 0 → slice_index_or new j 0 ≡ later

-- a step back from an index marks what it passes, and at most the index before it
pub record IsStep (at later to : ℕ) (old new : List ℕ) : Type 0 where
  pub back : to < at
  pub marked : AreMarked to at later old new
  pub one : (j : ℕ) → j + 1 < at → slice_index_or new j 0 ≡ slice_index_or old j 0
  pub filled : (j : ℕ) → to ≤ j → j < at → 0 < slice_index_or new j 0

-- the lists of a cover of so many entries
pub record IsSized (size : ℕ) (cover : Cover) : Type 0 where
  pub starts : length cover.starts.items ≡ size + 1
  pub ends : length cover.ends.items ≡ size + 1
  pub first : length cover.first.items ≡ size
  pub runs : AreRuns cover.first.items cover.runs.items

-- so many more at an index
pub record HasMore (at more : ℕ) (old new : List ℕ) : Type 0 where
  pub as_many : length new ≡ length old
  pub here : slice_index_or new at 0 ≡ slice_index_or old at 0 + more
  pub others : (k : ℕ) → k ≢ at → slice_index_or new k 0 ≡ slice_index_or old k 0

-- a window is added
pub record HasWindow (window : Window) (later : ℕ) (old new : Cover) : Type 0 where
  pub starts : HasMore window.start (cond (nat_lt window.start window.end) 1 0) old.starts.items new.starts.items
  pub ends : HasMore window.end (cond (nat_lt window.start window.end) 1 0) old.ends.items new.ends.items
  pub first : AreMarked window.start window.end later old.first.items new.first.items
  pub runs : AreRuns new.first.items new.runs.items

-- windows of one access are added, each after the one before
pub record HasWindows (windows : List Window) (later : ℕ) (old new : Cover) : Type 0 where
  pub first : (j : ℕ) → slice_index_or new.first.items j 0 ≡ cond (is_within windows j && (slice_index_or old.first.items j 0 == 0)) later (slice_index_or old.first.items j 0)
  pub covering : (j : ℕ) → j < length old.first.items → sum (take (j + 1) new.starts.items) + sum (take (j + 1) old.ends.items) ≡ sum (take (j + 1) old.starts.items) + sum (take (j + 1) new.ends.items) + cond (is_within windows j) 1 0
  pub starts : (k : ℕ) → slice_index_or new.starts.items k 0 ≤ slice_index_or old.starts.items k 0 + min later 1
  pub ends : (k : ℕ) → slice_index_or new.ends.items k 0 ≤ slice_index_or old.ends.items k 0 + min later 1
  pub starts_left : (k : ℕ) → All (λ window. window.end ≤ k) windows → slice_index_or new.starts.items k 0 ≡ slice_index_or old.starts.items k 0
  pub ends_left : (k : ℕ) → All (λ window. window.end < k) windows → slice_index_or new.ends.items k 0 ≡ slice_index_or old.ends.items k 0

-- these events were added, which rise: of each entry it is known how many of them race with it, and the first one
pub record HasCovered (trace : List Event) (entries : List Entry) (events : List ℕ) (cover : Cover) : Type 0 where
  pub rising : AllPairs (λ d e. d < e) events
  pub few : length events ≤ 2 ^ 32
  pub sized : IsSized (length entries) cover
  pub first : (j : ℕ) (entry : Entry) → slice_get entries j ≡ Some entry → IsEarliest trace events entry.event (slice_index_or cover.first.items j 0)
  pub covering : (j : ℕ) (entry : Entry) → slice_get entries j ≡ Some entry → sum (take (j + 1) cover.starts.items) ≡ sum (take (j + 1) cover.ends.items) + count_by (λ e. is_race trace entry.event e) events
  pub room : (e : ℕ) → All (λ d. d < e) events → 0 < e → (k : ℕ) → (slice_index_or cover.starts.items k 0 < e) × (slice_index_or cover.ends.items k 0 < e)
