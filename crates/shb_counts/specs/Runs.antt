-- What the counting of some accesses is given, and what is counted of a run: of accesses of one variable, location and kind.
use Rattle.std.specs.Prelude.{◌≡◌, ◌<◌, ◌++◌, ℕ, Bool, true, List, [], Option, Some, None, All, AllPairs, Contains, flat_map, slice_get, ◌≤◌}
use Rattle.std.specs.List.Sorted.{IsPermutation}
use Rattle.shb_lines.specs.declared.event.Event.{Event}
use Rattle.shb_lines.specs.declared.event.Pair.{Pair}
use Rattle.shb_stamps.specs.Listed.{ListedTrace, is_listed}
use Rattle.shb_stamps.specs.Open.{is_open}
use Rattle.shb_counts.specs.Accesses.{AreAccesses, AreEntries, IsAccess, StandsBefore}
use Rattle.shb_counts.specs.Covers.{HasCovered, racing_pairs}
use Rattle.shb_counts.specs.Sums.{AreSumsOf}
use Rattle.shb_counts.specs.declared.accesses.Access.{Access}
use Rattle.shb_counts.specs.declared.accesses.Accesses.{Accesses}
use Rattle.shb_counts.specs.declared.accesses.Entry.{Entry}
use Rattle.shb_counts.specs.declared.cover.Cover.{Cover}
use Rattle.shb_counts.specs.declared.runs.RunSums.{RunSums}

-- some of the accesses of open variables, in their order, which an order can be asked about
pub record AreCountable (ordered : ListedTrace) (flags : List Bool) (numbers : List ℕ) (accesses : Accesses) (list : List Access) : Type 0 where
  pub kept : AreAccesses ordered.trace flags numbers accesses
  pub each : All (IsAccess ordered.trace numbers) list
  pub are_open : All (λ access. is_open flags access.variable ≡ true) list
  pub asked : All (λ access. is_listed ordered.events access.event ≡ true) list
  pub in_order : AllPairs StandsBefore list

-- an order of a trace can be asked about some accesses
pub record CanAsk (trace : List Event) (list : List Access) (ordered : ListedTrace) : Type 0 where
  pub of_trace : ordered.trace ≡ trace
  pub asked : All (λ access. is_listed ordered.events access.event ≡ true) list

-- an access has the variable, location and kind of another
pub record IsLike (one access : Access) : Type 0 where
  pub variable : access.variable ≡ one.variable
  pub location : access.location ≡ one.location
  pub writes : access.writes ≡ one.writes

-- the accesses from one index up to another are like the first of them
abbrev pub AreLike : List Access → ℕ → ℕ → Type 0
AreLike list start end = (k : ℕ) (one access : Access) → slice_get list start ≡ Some one → slice_get list k ≡ Some access → start ≤ k → k < end → IsLike one access

-- accesses of one variable, location and kind, in trace order, and the entries that they conflict with
pub record IsRun (ordered : ListedTrace) (numbers : List ℕ) (entries : List Entry) (run : List Access) : Type 0 where
  pub each : All (IsAccess ordered.trace numbers) run
  pub asked : All (λ access. is_listed ordered.events access.event ≡ true) run
  pub alike : (one access : Access) → Contains run one → Contains run access → IsLike one access
  pub rising : AllPairs (λ a b. a.event < b.event) run
  pub conflicting : (access : Access) → Contains run access → AreEntries ordered.trace numbers access.variable access.writes entries

-- the race of an entry with an event
abbrev pub race_of : ℕ → Entry → Pair
race_of e entry = record { first = entry.event; second = e }

-- these events were added to a cover, if there is one
abbrev pub MayCover : List Event → List Entry → List ℕ → Option Cover → Type 0
MayCover trace entries events None = events ≡ []
MayCover trace entries events (Some cover) = HasCovered trace entries events cover

-- after some pairs the races of these events were added, one by one or to the cover
pub record HasAdded (trace : List Event) (numbers : List ℕ) (entries : List Entry) (pairs : List Pair) (events : List ℕ) (sums : RunSums) : Type 0 where
  pub direct : List ℕ
  pub covered : List ℕ
  pub split : IsPermutation (direct ++ covered) events
  pub summed : AreSumsOf trace numbers (pairs ++ flat_map (racing_pairs trace entries) direct) sums.table.sums.items
  pub cover : MayCover trace entries covered sums.cover

-- these pairs were added, and no cover is left
pub record IsSummed (trace : List Event) (numbers : List ℕ) (pairs : List Pair) (sums : RunSums) : Type 0 where
  pub summed : AreSumsOf trace numbers pairs sums.table.sums.items
  pub cover : sums.cover ≡ None
