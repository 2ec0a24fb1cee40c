-- Places by the numbers of their two locations.
use Rattle.std.specs.Prelude.{◌≡◌, ℕ, ◌+◌, Bool, ◌&&◌, nat_eq, List, [], ◌∷◌, ◌++◌, Option, Some, slice_get, if◌then◌else◌}
use Rattle.std.specs.List.{AllZip}
use Rattle.std.specs.Map.{lookup}
use Rattle.std.specs.Option.{is_some, option_map_or}
use Rattle.indexmap.specs.IndexMap.{insert_entry}
use Rattle.shb_lines.specs.declared.event.Pair.{Pair}
use Rattle.shb_format.specs.declared.places.PlaceCount.{PlaceCount}
use Rattle.shb_format.specs.Places.{PlaceOf, with_one_more}

-- the numbers of a place's two locations, the first one's first
abbrev pub Key : Type 0
Key = ℕ × ℕ

abbrev pub same_key : Key → Key → Bool
same_key x y = nat_eq x.0 y.0 && nat_eq x.1 y.1

-- the numbers of a place's locations, and what is counted of it
abbrev pub Keyed : Type 0
Keyed = Key × PlaceCount

-- what is counted of the place with these numbers
abbrev pub counted_of : List Keyed → Key → Option PlaceCount
counted_of places key = lookup (same_key key) places

-- the places with a pair more that has these numbers: its place counts it, or it is the first of a new place, which is put last
abbrev pub with_keyed : List Keyed → Key → Pair → List Keyed
with_keyed places key pair = insert_entry same_key places key (with_one_more (counted_of places key) pair)

-- what is counted of a place with so many pairs more
abbrev pub counting : PlaceCount → ℕ → PlaceCount
counting counted more = record { pair = counted.pair; count = counted.count + more }

-- the places with so many pairs more that have these numbers, where a place has these; a place that isn't there does not come
abbrev pub with_more : List Keyed → Key → ℕ → List Keyed
with_more places key more = option_map_or (λ counted. insert_entry same_key places key (counting counted more)) (counted_of places key) places

-- the places, and one that is put last unless one with its numbers is there
abbrev pub with_new : List Keyed → Key → PlaceCount → List Keyed
with_new places key counted = if is_some (counted_of places key) then places else places ++ (key, counted) ∷ []

-- the place's locations have these numbers among the locations
pub record IsKeyed (locations : List (List ℕ)) (keyed : Keyed) (place : PlaceOf) : Type 0 where
  pub first : slice_get locations keyed.0.0 ≡ Some place.first
  pub second : slice_get locations keyed.0.1 ≡ Some place.second
  pub counted : keyed.1 ≡ place.counted

-- the places one by one
abbrev pub AreKeyed : List (List ℕ) → List Keyed → List PlaceOf → Type 0
AreKeyed locations = AllZip (IsKeyed locations)
