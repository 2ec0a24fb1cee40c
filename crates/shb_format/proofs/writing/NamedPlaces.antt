-- The lines of places in a table, whose locations have names, are those of the places of a trace's pairs.
use Rattle.std.proofs.Common.{◌≡◌, ℕ, zero, suc, ◌+◌, ◌<◌, ◌&&◌, Bool, true, false, cond, List, [], ◌∷◌, length, get_or, Some, slice_get, refl, sym, ap, subst, ◌∙◌, arith}
use Rattle.shb_format.proofs.Words.{AllByRecursion, AreKeyed, IsKeyed, Keyed, Pair, PlaceCount, PlaceOf, TraceData, bytes_eq, counts_in, length-map, location_at, place_bytes, place_text, places_after, places_of_pairs, slice_get_within, with_one_more, with_pair}
use Rattle.shb_format.proofs.EachLemmas.{each_at}
use Rattle.shb_format.proofs.writing.PlaceText.{place_is}

-- a place of a table is the place of the same number
keyed_at : (locations : List (List ℕ)) (keyed : List Keyed) (places : List PlaceOf) (q : ℕ) (k : Keyed) → AreKeyed locations keyed places → slice_get keyed q ≡ Some k
    → (place : PlaceOf) × (slice_get places q ≡ Some place) × IsKeyed locations k place
keyed_at locations [] places q k are at = absurd (let f : ⊥ = cc in f)
keyed_at locations (e ∷ keyed) [] q k are at = absurd are
keyed_at locations (e ∷ keyed) (place ∷ places) zero k are at = let same : e ≡ k = cc in (place, refl, subst (λ (e : Keyed). IsKeyed locations e place) same are.0)
keyed_at locations (e ∷ keyed) (place ∷ places) (suc q) k are at = keyed_at locations keyed places q k are.1 at

-- its numbers are numbers of locations
pub key_within : (locations : List (List ℕ)) (keyed : List Keyed) (places : List PlaceOf) (q : ℕ) (k : Keyed) → AreKeyed locations keyed places → slice_get keyed q ≡ Some k
    → (k.0.0 < length locations) × (k.0.1 < length locations)
key_within locations keyed places q k are at =
    let is = (keyed_at locations keyed places q k are at).2 in
    (slice_get_within locations k.0.0 _ is.first, slice_get_within locations k.0.1 _ is.second)

-- a place has the locations of its first pair
abbrev IsPlaced : TraceData → PlaceOf → Type 0
IsPlaced trace place = (place.first ≡ location_at trace place.counted.pair.first) × (place.second ≡ location_at trace place.counted.pair.second)

with_pair_placed : (trace : TraceData) (places : List PlaceOf) (pair : Pair) → AllByRecursion (IsPlaced trace) places
    → AllByRecursion (IsPlaced trace) (with_pair places (location_at trace pair.first) (location_at trace pair.second) pair)
with_pair_placed trace [] pair h = ((refl, refl), tt)
with_pair_placed trace (place ∷ places) pair h = by (bytes_eq (location_at trace pair.first) place.first && bytes_eq (location_at trace pair.second) place.second) (with_pair_placed trace places pair h.1)
  where
    by : (b : Bool) → AllByRecursion (IsPlaced trace) (with_pair places (location_at trace pair.first) (location_at trace pair.second) pair)
        → AllByRecursion (IsPlaced trace) (cond b (record { first = place.first; second = place.second; counted = with_one_more (Some place.counted) pair } ∷ places) (place ∷ with_pair places (location_at trace pair.first) (location_at trace pair.second) pair))
    by true rest = (h.0, h.1)
    by false rest = (h.0, rest)

places_placed : (trace : TraceData) (places : List PlaceOf) (pairs : List Pair) → AllByRecursion (IsPlaced trace) places → AllByRecursion (IsPlaced trace) (places_after trace places pairs)
places_placed trace places [] h = h
places_placed trace places (pair ∷ pairs) h = places_placed trace (with_pair places (location_at trace pair.first) (location_at trace pair.second) pair) pairs (with_pair_placed trace places pair h)

count_at : (places : List PlaceOf) (q : ℕ) (place : PlaceOf) (d : PlaceCount) → slice_get places q ≡ Some place → get_or (counts_in places) q d ≡ place.counted
count_at [] q place d at = absurd (let f : ⊥ = cc in f)
count_at (p ∷ places) zero place d at = let same : p ≡ place = cc in ap (λ (p : PlaceOf). p.counted) same
count_at (p ∷ places) (suc q) place d at = count_at places q place d at

-- the lines of a place by the names behind its numbers
module _ (trace : TraceData) (pairs : List Pair) (locations : List (List ℕ)) (keyed : List Keyed) (are : AreKeyed locations keyed (places_of_pairs trace pairs)) where
  abbrev counts : List PlaceCount
  counts = counts_in (places_of_pairs trace pairs)

  as_many : (keyed : List Keyed) (places : List PlaceOf) → AreKeyed locations keyed places → length keyed ≡ length places
  as_many [] [] are = refl
  as_many [] (place ∷ places) are = absurd are
  as_many (k ∷ keyed) [] are = absurd are
  as_many (k ∷ keyed) (place ∷ places) are = ap (λ (n : ℕ). suc n) (as_many keyed places are.1)

  pub many_counts : length keyed ≡ length counts
  many_counts = as_many keyed (places_of_pairs trace pairs) are ∙ sym (length-map (places_of_pairs trace pairs) (λ place. place.counted))

  module _ (q : ℕ) (k : Keyed) (at : slice_get keyed q ≡ Some k) where
    pub count_within : q < length counts
    count_within = let below = slice_get_within keyed q k at in omega (arith, below, many_counts)

    pub named_place : (d : PlaceCount) (first second : List ℕ) → slice_get locations k.0.0 ≡ Some first → slice_get locations k.0.1 ≡ Some second
        → place_text (q + 1) k.1.count first second ≡ place_bytes trace (q + 1) (get_or counts q d)
    named_place d first second at_first at_second =
        let found = keyed_at locations keyed (places_of_pairs trace pairs) q k are at in
        let place : PlaceOf = found.0 in
        let is : IsKeyed locations k place = found.2 in
        let placed = each_at (IsPlaced trace) (places_of_pairs trace pairs) q place found.1 (places_placed trace [] pairs tt) in
        let first_is : first ≡ place.first = (let both = sym at_first ∙ is.first in cc) in
        let second_is : second ≡ place.second = (let both = sym at_second ∙ is.second in cc) in
        place_is trace (q + 1) k.1 first second (first_is ∙ placed.0 ∙ ap (λ (c : PlaceCount). location_at trace c.pair.first) (sym is.counted))
        (second_is ∙ placed.1 ∙ ap (λ (c : PlaceCount). location_at trace c.pair.second) (sym is.counted))
        ∙ ap (place_bytes trace (q + 1)) (is.counted ∙ sym (count_at (places_of_pairs trace pairs) q place d found.1))
