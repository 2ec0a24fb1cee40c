-- The sums of races by place, with the first race of each.
use Rattle.std.specs.Prelude.{◌≡◌, ◌<◌, ◌≤◌, ◌⊎◌, ℕ, List, Some, All, flat_map, length, map}
use Rattle.shb_lines.specs.declared.event.Event.{Event}
use Rattle.shb_lines.specs.declared.event.Pair.{Pair}
use Rattle.shb_lines.specs.events.Race.{KeyBefore, variable_at}
use Rattle.shb_format.specs.Report.{pair_of}
use Rattle.shb_stamps.specs.Accesses.{races_with}
use Rattle.shb_counts.specs.Numbered.{key_in, number_in}
use Rattle.shb_counts.specs.PlaceSums.{AreSums}
use Rattle.shb_counts.specs.declared.accesses.Access.{Access}
use Rattle.shb_counts.specs.declared.runs.Counted.{Counted}
use Rattle.shb_counts.specs.declared.sums.PlaceSum.{PlaceSum}

-- the races of an access, as pairs
abbrev pub pairs_with : List Event → ℕ → List Pair
pairs_with trace e = map pair_of (races_with trace e)

-- those of several
abbrev pub pairs_of : List Event → List Access → List Pair
pairs_of trace accesses = flat_map (λ access. pairs_with trace access.event) accesses

-- a sum: its race, and how many races
abbrev pub sum_of : PlaceSum → Pair × ℕ
sum_of sum = (record { first = sum.earlier; second = sum.later }, sum.count)

-- the numbers of a sum are those of its race
pub record IsPlaceSum (trace : List Event) (numbers : List ℕ) (sum : PlaceSum) : Type 0 where
  pub first : number_in numbers sum.earlier ≡ sum.first
  pub second : number_in numbers sum.later ≡ sum.second
  pub variable : variable_at trace sum.later ≡ Some sum.variable

-- p stands before q: by the number of the variable, then by the later event, then by the earlier
abbrev pub IsBefore : List Event → Pair → Pair → Type 0
IsBefore trace p q = (x y : ℕ) → variable_at trace p.second ≡ Some x → variable_at trace q.second ≡ Some y → KeyBefore (x, p.second, p.first) (y, q.second, q.first)

-- p doesn't stand after q
abbrev pub IsNotAfter : List Event → Pair → Pair → Type 0
IsNotAfter trace p q = (x y : ℕ) → variable_at trace p.second ≡ Some x → variable_at trace q.second ≡ Some y → (x < y) ⊎ ((x ≡ y) × ((p.second < q.second) ⊎ ((p.second ≡ q.second) × (p.first ≤ q.first))))

-- of each place of these pairs the sums add up to how many there are, and the first of them is in a sum
pub record AreSumsOf (trace : List Event) (numbers : List ℕ) (pairs : List Pair) (sums : List PlaceSum) : Type 0 where
  pub each : All (IsPlaceSum trace numbers) sums
  pub are_sums : AreSums (key_in numbers) (IsNotAfter trace) pairs (map sum_of sums)

-- what is counted of the races of these accesses: of each access how many, and the sums of all
pub record IsCounted (trace : List Event) (numbers : List ℕ) (accesses : List Access) (counted : Counted) : Type 0 where
  pub races : counted.races.items ≡ map (λ access. length (races_with trace access.event)) accesses
  pub sums : AreSumsOf trace numbers (pairs_of trace accesses) counted.sums.items
