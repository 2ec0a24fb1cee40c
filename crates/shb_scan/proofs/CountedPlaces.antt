-- The places of races that were found, counted by the numbers of their locations.
use Rattle.std.proofs.Common.{◌≡◌, ℕ, zero, suc, ◌+◌, ◌<◌, ◌≤◌, Bool, true, false, cond, List, [], ◌∷◌, length, map, get_or, take, Some, IfSome, refl, sym, ap, subst, ◌∙◌, arith}
use Rattle.shb_scan.proofs.Words.{AllByRecursion, AreKeyed, FoundRace, IsDistinct, IsRaceLocated, Key, Keyed, Pair, PlaceOf, TraceData, bytes_eq, counted_of, ends_of, length-map, location_at, pair_of, places_after, same_key, with_keyed, with_one_more, with_pair}
use Rattle.indexmap.specs.IndexMap.{insert_entry}
use Rattle.shb_format.proofs.EachLemmas.{each-weaker}
use Rattle.shb_format.proofs.KeyedLemmas.{keyed_pair}
use Rattle.shb_format.proofs.PlaceLemmas.{one_pair_more}

-- no place counts more than so many races
abbrev pub AreFew : ℕ → List Keyed → Type 0
AreFew n = AllByRecursion (λ (place : Keyed). place.1.count ≤ n)

pub few_more : (n : ℕ) (key : Key) (pair : Pair) (keyed : List Keyed) → AreFew n keyed → AreFew (n + 1) (with_keyed keyed key pair)
few_more n key pair [] few = (omega arith, tt)
few_more n key pair (k ∷ keyed) few = by (same_key key k.0) (few_more n key pair keyed few.1)
  where
    by : (b : Bool) → AreFew (n + 1) (with_keyed keyed key pair)
        → AreFew (n + 1) (cond b ((k.0, with_one_more (cond b (Some k.1) (counted_of keyed key)) pair) ∷ keyed) (k ∷ insert_entry same_key keyed key (with_one_more (cond b (Some k.1) (counted_of keyed key)) pair)))
    by true rest = (omega (arith, few.0), each-weaker (λ (p : Keyed). p.1.count ≤ n) (λ (p : Keyed). p.1.count ≤ n + 1) keyed (λ p l. omega (arith, l)) few.1)
    by false rest = (omega (arith, few.0), rest)

pub few_counted : (n limit : ℕ) (key : Key) (keyed : List Keyed) → n < limit → AreFew n keyed → IfSome (counted_of keyed key) (λ c. c.count < limit)
few_counted n limit key [] below few = tt
few_counted n limit key (k ∷ keyed) below few = by (same_key key k.0) (few_counted n limit key keyed below few.1)
  where
    by : (b : Bool) → IfSome (counted_of keyed key) (λ c. c.count < limit) → IfSome (cond b (Some k.1) (counted_of keyed key)) (λ c. c.count < limit)
    by true rest = omega (arith, few.0, below)
    by false rest = rest

-- the pairs of races
abbrev pub pairs_of : List FoundRace → List Pair
pairs_of races = map pair_of (map ends_of races)

pub many_pairs : (races : List FoundRace) → length (pairs_of races) ≡ length races
many_pairs races = length-map (map ends_of races) pair_of ∙ length-map races ends_of

pair_at : (races : List FoundRace) (k : ℕ) (d : FoundRace) (e : Pair) → k < length races → get_or (pairs_of races) k e ≡ pair_of (ends_of (get_or races k d))
pair_at [] k d e below = absurd (omega (arith, below))
pair_at (race ∷ races) zero d e below = refl
pair_at (race ∷ races) (suc k) d e below = pair_at races k d e (omega (arith, below))

-- the numbers of the locations of a race
abbrev pub key_of : FoundRace → Key
key_of race = (race.first.spot.location, race.second.spot.location)

pub one_race_more : (trace : TraceData) (locations : List (List ℕ)) (races : List FoundRace) (k : ℕ) (d : FoundRace) (keyed new : List Keyed) → k < length races → IsDistinct bytes_eq locations
    → IsRaceLocated locations trace (get_or races k d) → AreKeyed locations keyed (places_after trace [] (take k (pairs_of races))) → new ≡ with_keyed keyed (key_of (get_or races k d)) (pair_of (ends_of (get_or races k d)))
    → AreKeyed locations new (places_after trace [] (take (k + 1) (pairs_of races)))
one_race_more trace locations races k d keyed new within differ located are added =
    let race : FoundRace = get_or races k d in
    let pair : Pair = pair_of (ends_of race) in
    let places : List PlaceOf = places_after trace [] (take k (pairs_of races)) in
    let first : List ℕ = location_at trace race.first.event in
    let second : List ℕ = location_at trace race.second.event in
    let at : get_or (pairs_of races) k pair ≡ pair = pair_at races k d pair within in
    let more : AreKeyed locations (with_keyed keyed (key_of race) pair) (with_pair places first second pair) = keyed_pair locations differ (key_of race) first second located.first located.second pair keyed places are in
    let step : with_pair places first second (get_or (pairs_of races) k pair) ≡ places_after trace [] (take (k + 1) (pairs_of races))
    = one_pair_more trace [] (pairs_of races) k pair first second (omega (arith, within, many_pairs races)) (ap (λ (p : Pair). location_at trace p.first) (sym at)) (ap (λ (p : Pair). location_at trace p.second) (sym at)) in
    subst (λ (l : List Keyed). AreKeyed locations l (places_after trace [] (take (k + 1) (pairs_of races)))) (sym added)
    (subst (AreKeyed locations (with_keyed keyed (key_of race) pair)) (ap (with_pair places first second) (sym at) ∙ step) more)
