-- What a table of places does with a pair.
use Rattle.shb_format.proofs.Words.{AllByRecursion, IsPairOf, IsPlaceOf, Pair, PlaceCount, PlaceOf, TraceData, bytes_eq, common_steps, counts_in, location_at, location_of, option_copied, option_map, places_after, places_of_pairs, take_more, unwrap_or, with_one_more, with_pair}
use Rattle.std.specs.Prelude.{All}
use Rattle.std.proofs.Common.{◌≡◌, ℕ, zero, suc, ◌+◌, ◌<◌, ◌≤◌, ◌&&◌, Bool, true, false, cond, List, [], ◌∷◌, length, get_or, take, Option, None, Some, IfSome, arith}
use Rattle.std.specs.Borrow.{Bor}
use Rattle.std.proofs.lemmas.List.Sums.{fold-append}
use Rattle.shb_format.proofs.EachLemmas.{each-weaker}

pub copied_few : (limit : ℕ) (found : Option (Bor PlaceCount)) → IfSome (option_copied found) (λ counted. counted.count < limit) → IfSome found (λ counted. counted.now.count < limit)
copied_few limit None h = tt
copied_few limit (Some counted) h = h

-- a count is not above the number of pairs
pub with_pair_few : (n : ℕ) (places : List PlaceOf) (first second : List ℕ) (pair : Pair) → 0 < n → AllByRecursion (λ place. place.counted.count + 1 ≤ n) places → AllByRecursion (λ place. place.counted.count ≤ n) (with_pair places first second pair)
with_pair_few n [] first second pair some h = (omega arith, tt)
with_pair_few n (place ∷ places) first second pair some h = by (bytes_eq first place.first && bytes_eq second place.second) (with_pair_few n places first second pair some h.1)
  where
    by : (b : Bool) → AllByRecursion (λ place. place.counted.count ≤ n) (with_pair places first second pair)
        → AllByRecursion (λ place. place.counted.count ≤ n) (cond b (record { first = place.first; second = place.second; counted = with_one_more (Some place.counted) pair } ∷ places) (place ∷ with_pair places first second pair))
    by true rest = (omega (arith, h.0), each-weaker (λ p. p.counted.count + 1 ≤ n) (λ p. p.counted.count ≤ n) places (λ p l. omega arith) h.1)
    by false rest = (omega (arith, h.0), rest)

-- the location of an event
pub located : (line : Option (List ℕ)) (found : List ℕ) → option_map location_of line ≡ Some found → found ≡ location_of (unwrap_or line [])
located None found e = absurd (cc)
located (Some line) found e = cc

-- one pair more
pub one_pair_more : (trace : TraceData) (before : List PlaceOf) (pairs : List Pair) (k : ℕ) (d : Pair) (first second : List ℕ) → k < length pairs
    → first ≡ location_at trace (get_or pairs k d).first → second ≡ location_at trace (get_or pairs k d).second
    → with_pair (places_after trace before (take k pairs)) first second (get_or pairs k d) ≡ places_after trace before (take (k + 1) pairs)
one_pair_more trace before pairs k d first second within e f = grind (arith, common_steps, fold-append, take_more)

-- each place's pair is one of the pairs
pub with_pair_in_range : (trace : TraceData) (places : List PlaceOf) (first second : List ℕ) (pair : Pair) → IsPairOf trace pair → AllByRecursion (λ place. IsPlaceOf trace place.counted) places
    → AllByRecursion (λ place. IsPlaceOf trace place.counted) (with_pair places first second pair)
with_pair_in_range trace [] first second pair p h = (p, tt)
with_pair_in_range trace (place ∷ places) first second pair p h = by (bytes_eq first place.first && bytes_eq second place.second) (with_pair_in_range trace places first second pair p h.1)
  where
    by : (b : Bool) → AllByRecursion (λ q. IsPlaceOf trace q.counted) (with_pair places first second pair)
        → AllByRecursion (λ q. IsPlaceOf trace q.counted) (cond b (record { first = place.first; second = place.second; counted = with_one_more (Some place.counted) pair } ∷ places) (place ∷ with_pair places first second pair))
    by true rest = (h.0, h.1)
    by false rest = (h.0, rest)

pub counts_in_range : (trace : TraceData) (places : List PlaceOf) → AllByRecursion (λ place. IsPlaceOf trace place.counted) places → All (IsPlaceOf trace) (counts_in places)
counts_in_range trace [] h k d below = absurd (omega arith)
counts_in_range trace (place ∷ places) h zero d below = h.0
counts_in_range trace (place ∷ places) h (suc k) d below = counts_in_range trace places h.1 k d (omega arith)

-- with all pairs counted no count has grown by more than their number
pub places_after_few : (trace : TraceData) (n : ℕ) (places : List PlaceOf) (pairs : List Pair) → AllByRecursion (λ place. place.counted.count ≤ n) places
    → AllByRecursion (λ place. place.counted.count ≤ length pairs + n) (places_after trace places pairs)
places_after_few trace n places [] few = each-weaker (λ (p : PlaceOf). p.counted.count ≤ n) (λ (p : PlaceOf). p.counted.count ≤ length {A = Pair} [] + n) places (λ p l. omega arith) few
places_after_few trace n places (pair ∷ pairs) few =
    let after = with_pair places (location_at trace pair.first) (location_at trace pair.second) pair in
    let once = with_pair_few (n + 1) places (location_at trace pair.first) (location_at trace pair.second) pair (omega arith)
    (each-weaker (λ (p : PlaceOf). p.counted.count ≤ n) (λ (p : PlaceOf). p.counted.count + 1 ≤ n + 1) places (λ p l. omega arith) few) in
    each-weaker (λ (p : PlaceOf). p.counted.count ≤ length pairs + (n + 1)) (λ (p : PlaceOf). p.counted.count ≤ suc (length pairs) + n) (places_after trace after pairs) (λ p l. omega arith)
    (places_after_few trace (n + 1) after pairs once)

-- and each place's pair is one of theirs, or of those before
pub places_after_in_range : (trace : TraceData) (places : List PlaceOf) (pairs : List Pair) → All (IsPairOf trace) pairs → AllByRecursion (λ place. IsPlaceOf trace place.counted) places
    → AllByRecursion (λ place. IsPlaceOf trace place.counted) (places_after trace places pairs)
places_after_in_range trace places [] are h = h
places_after_in_range trace places (pair ∷ pairs) are h =
    places_after_in_range trace (with_pair places (location_at trace pair.first) (location_at trace pair.second) pair) pairs (λ k d lt. are (suc k) d (omega arith))
    (with_pair_in_range trace places (location_at trace pair.first) (location_at trace pair.second) pair (are 0 pair (omega arith)) h)

pub places_in_range : (trace : TraceData) (pairs : List Pair) → All (IsPairOf trace) pairs → All (IsPlaceOf trace) (counts_in (places_of_pairs trace pairs))
places_in_range trace pairs are = counts_in_range trace (places_of_pairs trace pairs) (places_after_in_range trace [] pairs are tt)
