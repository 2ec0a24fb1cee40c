-- Sums in order, those of one place added up, and their places.
use Rattle.std.specs.Prelude.{◌≡◌, ◌≢◌, ◌<◌, ◌≤◌, ℕ, List, Some, All, AllPairs, length, map, slice_get}
use Rattle.std.specs.Ordering.{nat_cmp, ordering_then}
use Rattle.std.specs.declared.cmp.Ordering.{Ordering}
use Rattle.shb_lines.specs.declared.event.Event.{Event}
use Rattle.shb_lines.specs.declared.event.Pair.{Pair}
use Rattle.shb_lines.specs.events.Race.{variable_at}
use Rattle.shb_format.specs.Keyed.{Key}
use Rattle.shb_format.specs.declared.places.PlaceCount.{PlaceCount}
use Rattle.shb_counts.specs.Numbered.{key_in}
use Rattle.shb_counts.specs.PlaceSums.{ArePlaces, AreSums}
use Rattle.shb_counts.specs.Sums.{IsNotAfter}
use Rattle.shb_counts.specs.declared.places.FirstRace.{FirstRace}
use Rattle.shb_counts.specs.declared.sums.PlaceSum.{PlaceSum}

-- sums are compared by place, then by their races
abbrev pub sum_cmp : PlaceSum → PlaceSum → Ordering
sum_cmp a b =
    ordering_then (nat_cmp a.first b.first) (ordering_then (nat_cmp a.second b.second)
    (ordering_then (nat_cmp a.variable b.variable) (ordering_then (nat_cmp a.later b.later) (ordering_then (nat_cmp a.earlier b.earlier) (nat_cmp a.count b.count)))))

-- the numbers of a sum's two locations
abbrev pub key_of : PlaceSum → Key
key_of sum = (sum.first, sum.second)

-- those of the sums from `start` on that have its place end at `end`
pub record IsStretch (sums : List PlaceSum) (start end : ℕ) : Type 0 where
  pub more : start < end
  pub within : end ≤ length sums
  pub same : (k : ℕ) (one other : PlaceSum) → slice_get sums start ≡ Some one → start ≤ k → k < end → slice_get sums k ≡ Some other → key_of other ≡ key_of one
  pub next : (one other : PlaceSum) → slice_get sums start ≡ Some one → slice_get sums end ≡ Some other → key_of other ≢ key_of one

-- a race, and how many have its place
abbrev pub first_of : FirstRace → Pair × ℕ
first_of race = (record { first = race.earlier; second = race.later }, race.count)

-- these are sums of the pairs, no two of one place, and the variable of each is that of its race
pub record AreFirstRaces (trace : List Event) (numbers : List ℕ) (pairs : List Pair) (races : List FirstRace) : Type 0 where
  pub variables : All (λ race. variable_at trace race.later ≡ Some race.variable) races
  pub sums : AreSums (key_in numbers) (IsNotAfter trace) pairs (map first_of races)
  pub apart : AllPairs (λ a b. key_in numbers a.0 ≢ key_in numbers b.0) (map first_of races)

-- the place that has this first race
abbrev pub place_of : FirstRace → PlaceCount
place_of race = record { pair = record { first = race.earlier; second = race.later }; count = race.count }

-- these are the places of the pairs, in the order of their first pairs
abbrev pub ArePlacesOf : List Event → List ℕ → List Pair → List PlaceCount → Type 0
ArePlacesOf trace numbers pairs places = ArePlaces (key_in numbers) (IsNotAfter trace) pairs (map (λ place. (place.pair, place.count)) places)
