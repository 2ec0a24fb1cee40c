-- The places of a list of pairs: each different pair of locations once, in the order of the first pair that has it, with the number of pairs that have it.
use Rattle.std.specs.Prelude.{ℕ, ◌+◌, ◌<◌, ◌&&◌, List, [], ◌∷◌, length, map, fold, slice_get, Option, None, Some, unwrap_or, if◌then◌else◌}
use Rattle.std.specs.Str.{bytes_eq}
use Rattle.shb_lines.specs.declared.event.Pair.{Pair}
use Rattle.shb_lines.specs.text.TraceData.{TraceData, location_of}
use Rattle.shb_format.specs.declared.places.PlaceCount.{PlaceCount}
use Rattle.shb_format.specs.Value.{Place, lines_text, place_lines, places_section}

-- two locations, the first pair that has them, and how many pairs have them
pub record PlaceOf : Type 0 where
  pub first : List ℕ
  pub second : List ℕ
  pub counted : PlaceCount

-- the location of an event as the text has it; every event of a trace has a line
abbrev pub location_at : TraceData → ℕ → List ℕ
location_at trace event = location_of (unwrap_or (slice_get trace.lines event) [])

-- the place of two events: their locations, the first one's first
abbrev pub place_at : TraceData → ℕ → ℕ → List ℕ × List ℕ
place_at trace first second = (location_at trace first, location_at trace second)

-- what is counted of a place with one pair more; a pair of new locations is the first of its place
abbrev pub with_one_more : Option PlaceCount → Pair → PlaceCount
with_one_more None pair = record { pair = pair; count = 1 }
with_one_more (Some counted) pair = record { pair = counted.pair; count = counted.count + 1 }

-- the places with a pair of these locations more: the place that has them counts it, or it is the first of a new place
abbrev pub with_pair : List PlaceOf → List ℕ → List ℕ → Pair → List PlaceOf
with_pair [] first second pair = record { first = first; second = second; counted = with_one_more None pair } ∷ []
with_pair (place ∷ places) first second pair =
    if bytes_eq first place.first && bytes_eq second place.second
    then record { first = place.first; second = place.second; counted = with_one_more (Some place.counted) pair } ∷ places
    else place ∷ with_pair places first second pair

-- these places, and then each pair in its turn
abbrev pub places_after : TraceData → List PlaceOf → List Pair → List PlaceOf
places_after trace before pairs = fold (λ places pair. with_pair places (location_at trace pair.first) (location_at trace pair.second) pair) before pairs

abbrev pub places_of_pairs : TraceData → List Pair → List PlaceOf
places_of_pairs trace pairs = places_after trace [] pairs

-- the first pair of each place, and how many pairs have it
abbrev pub counts_in : List PlaceOf → List PlaceCount
counts_in places = map (λ place. place.counted) places

-- both events of the pair are events of the trace
pub record IsPairOf (trace : TraceData) (pair : Pair) : Type 0 where
  pub first : pair.first < length trace.events
  pub second : pair.second < length trace.events

-- the places as a report shows them, with the locations of their first pairs
abbrev pub shown_place : TraceData → PlaceCount → Place
shown_place trace counted = record { count = counted.count; first = location_at trace counted.pair.first; second = location_at trace counted.pair.second }

abbrev pub shown_places : TraceData → List PlaceCount → List Place
shown_places trace counts = map (shown_place trace) counts

-- the lines of the place of this number, and those of all places after their count
abbrev pub place_bytes : TraceData → ℕ → PlaceCount → List ℕ
place_bytes trace number counted = lines_text (place_lines number (shown_place trace counted ∷ []))

abbrev pub places_bytes : TraceData → List PlaceCount → List ℕ
places_bytes trace counts = lines_text (place_lines 1 (shown_places trace counts))

abbrev pub section_bytes : TraceData → List PlaceCount → List ℕ
section_bytes trace counts = lines_text (places_section (Some (shown_places trace counts)))

-- both events of the place's pair are events of the trace
abbrev pub IsPlaceOf : TraceData → PlaceCount → Type 0
IsPlaceOf trace counted = IsPairOf trace counted.pair
