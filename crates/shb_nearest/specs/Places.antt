-- The places that are found, with the nearest race of each.
use Rattle.std.specs.Prelude.{◌≡◌, ◌⊎◌, ◌==◌, ◌&&◌, ◌<◌, ◌≤◌, nat_eq, nat_lt, ℕ, Bool, true, cond, List, Option, None, Some, fold, if◌then◌else◌}
use Rattle.std.specs.Map.{lookup}
use Rattle.indexmap.specs.IndexMap.{insert_entry}
use Rattle.shb_lines.specs.declared.event.Event.{Event}
use Rattle.shb_lines.specs.events.Race.{Race, variable_at}
use Rattle.shb_nearest.specs.Found.{IsFoundRace, location_in}
use Rattle.shb_nearest.specs.declared.access.FoundAccess.{FoundAccess}
use Rattle.shb_nearest.specs.declared.access.FoundRace.{FoundRace}
use Rattle.shb_nearest.specs.declared.access.Spot.{Spot}
use Rattle.shb_nearest.specs.declared.places.Place.{Place}

-- a place and its race
abbrev pub PlaceEntry : Type 0
PlaceEntry = Place × FoundRace

abbrev pub same_place : Place → Place → Bool
same_place p q = nat_eq p.first q.first && (nat_eq p.second q.second && nat_eq p.variable q.variable)

-- the race that is known of a place
abbrev pub race_at : List PlaceEntry → Place → Option FoundRace
race_at entries place = lookup (same_place place) entries

-- what a place has of its variable: the number, or 0 where variables tell no places apart
abbrev pub variable_part : Bool → ℕ → ℕ
variable_part by_variable x = if by_variable then x else 0

abbrev pub place_of : Bool → FoundRace → Place
place_of by_variable race = record { first = race.first.spot.location; second = race.second.spot.location; variable = variable_part by_variable race.variable }

-- whether a race is nearer than the one that is known of its place: none is, or one with the same later access and a lesser earlier one
abbrev pub is_nearer : Option FoundRace → FoundRace → Bool
is_nearer known race = elim known [ None ↦ true | Some old ↦ (old.second.event == race.second.event) && nat_lt old.first.event race.first.event ]

-- at a place there is a race that is known
abbrev pub IsKnown : List PlaceEntry → Place → Type 0
IsKnown entries place = (race : FoundRace) × (race_at entries place ≡ Some race)

-- the places after a race is offered to its place
abbrev pub offered : Bool → List PlaceEntry → FoundRace → List PlaceEntry
offered by_variable entries race = cond (is_nearer (race_at entries (place_of by_variable race)) race) (insert_entry same_place entries (place_of by_variable race) race) entries

abbrev pub race_with : ℕ → FoundAccess → FoundAccess → FoundRace
race_with x second first = record { variable = x; first = first; second = second }

-- the places after the races of an access with its rivals
abbrev pub offered_all : Bool → ℕ → FoundAccess → List PlaceEntry → List FoundAccess → List PlaceEntry
offered_all by_variable x second entries rivals = fold (λ es first. offered by_variable es (race_with x second first)) entries rivals

-- a pair of events of one variable is at the place
pub record IsAtPlace (by_variable : Bool) (trace : List Event) (spots : List Spot) (place : Place) (k l : ℕ) : Type 0 where
  pub first_is : location_in spots k ≡ Some place.first
  pub second_is : location_in spots l ≡ Some place.second
  pub variable_is : (x : ℕ) → variable_at trace l ≡ Some x → variable_part by_variable x ≡ place.variable

-- the race is one before n at the place, nearest of those before n
pub record IsNearestAt (by_variable : Bool) (trace : List Event) (spots : List Spot) (n : ℕ) (place : Place) (race : FoundRace) : Type 0 where
  pub accesses : IsFoundRace trace spots race
  pub place_is : place ≡ place_of by_variable race
  pub is_race : Race trace race.first.event race.second.event
  pub past : race.second.event < n
  pub nearest : (k l : ℕ) → l < n → Race trace k l → IsAtPlace by_variable trace spots place k l → (race.second.event < l) ⊎ ((race.second.event ≡ l) × (k ≤ race.first.event))

-- the nearest races of the places of the races before n
pub record ArePlaces (by_variable : Bool) (trace : List Event) (spots : List Spot) (n : ℕ) (entries : List PlaceEntry) : Type 0 where
  pub each : (place : Place) (race : FoundRace) → race_at entries place ≡ Some race → IsNearestAt by_variable trace spots n place race
  pub known : (place : Place) (i j : ℕ) → j < n → Race trace i j → IsAtPlace by_variable trace spots place i j → (race : FoundRace) × (race_at entries place ≡ Some race)
