-- The numbers of the locations of accesses.
use Rattle.std.specs.Prelude.{◌≡◌, ◌<◌, ◌≤◌, ℕ, Bool, true, false, List, Some, length, slice_get, slice_index_or}
use Rattle.std.specs.Str.{bytes_eq}
use Rattle.indexmap.specs.IndexSet.{insert_key}
use Rattle.shb_lines.specs.declared.event.Pair.{Pair}
use Rattle.shb_lines.specs.text.TraceData.{TraceData}
use Rattle.shb_format.specs.Keyed.{Key}
use Rattle.shb_format.specs.Places.{location_at}
use Rattle.shb_stamps.specs.Open.{accesses_open}

-- the number of an event
abbrev pub number_in : List ℕ → ℕ → ℕ
number_in numbers event = slice_index_or numbers event 0

-- the numbers of a pair's two locations
abbrev pub key_in : List ℕ → Pair → Key
key_in numbers pair = (number_in numbers pair.first, number_in numbers pair.second)

-- each of the first `count` events that accesses an open variable has the number of its location
pub record AreNumbered (trace : TraceData) (flags : List Bool) (count : ℕ) (numbers : List ℕ) (locations : List (List ℕ)) : Type 0 where
  pub as_many : length numbers ≡ count
  pub few : length locations ≤ count
  pub located : (e : ℕ) → e < count → accesses_open flags trace.events e ≡ true → slice_get locations (slice_index_or numbers e 0) ≡ Some (location_at trace e)

-- an event has this number, and these are the locations with its own
pub record IsNumbered (trace : TraceData) (flags : List Bool) (e : ℕ) (locations wider : List (List ℕ)) (number : ℕ) : Type 0 where
  pub known : accesses_open flags trace.events e ≡ true → wider ≡ insert_key bytes_eq locations (location_at trace e)
  pub located : accesses_open flags trace.events e ≡ true → slice_get wider number ≡ Some (location_at trace e)
  pub same : accesses_open flags trace.events e ≡ false → wider ≡ locations
