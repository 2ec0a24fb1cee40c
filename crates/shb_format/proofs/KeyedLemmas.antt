-- Places by the numbers of their locations are the places of these locations.
use Rattle.shb_format.proofs.Words.{AllByRecursion, AreKeyed, IsDistinct, Key, Keyed, Pair, PlaceCount, PlaceOf, TraceData, bytes_eq, bytes_eq-Decides, common_steps, counted_of, counts_in, insert_key, list_any, location_at, places_after, same_key, with_keyed, with_new, with_one_more, with_pair}
use Rattle.std.proofs.Common.{◌≡◌, ℕ, zero, suc, ◌+◌, ◌<◌, ◌≤◌, ◌&&◌, ◌++◌, Bool, true, false, cond, nat_eq, List, [], ◌∷◌, length, map, position, Option, None, Some, IfSome, is_some, slice_get, get_or, take, refl, sym, ap, subst, ◌∙◌, arith}
use Rattle.std.specs.Map.{keys_of}
use Rattle.std.proofs.lemmas.Bool.Decides.{eqb_tells}
use Rattle.indexmap.specs.IndexMap.{insert_entry, set_value_at}
use Rattle.indexmap.proofs.MapLemmas.{Found-position, insert_entry-first}
use Rattle.shb_lines.proofs.text.Numbers.{one_number}
use Rattle.shb_format.proofs.Numbered.{still_different}
use Rattle.shb_format.proofs.PlaceLemmas.{one_pair_more, places_after_few}

-- two numbers are equal exactly if their locations are
same_number : (locations : List (List ℕ)) (a b : ℕ) (x y : List ℕ) → IsDistinct bytes_eq locations → slice_get locations a ≡ Some x → slice_get locations b ≡ Some y → bytes_eq x y ≡ nat_eq a b
same_number locations a b x y differ at_a at_b = grind (arith, common_steps, eqb_tells, slice_get, bytes_eq-Decides, nat_eq, one_number)

-- one pair more
module _ (locations : List (List ℕ)) (differ : IsDistinct bytes_eq locations) (key : Key) (first second : List ℕ) (is_first : slice_get locations key.0 ≡ Some first) (is_second : slice_get locations key.1 ≡ Some second) (pair : Pair) where
  pub keyed_pair : (keyed : List Keyed) (places : List PlaceOf) → AreKeyed locations keyed places → AreKeyed locations (with_keyed keyed key pair) (with_pair places first second pair)
  keyed_pair [] [] are = (record { first = is_first; second = is_second; counted = refl }, tt)
  keyed_pair [] (place ∷ places) are = absurd are
  keyed_pair (k ∷ keyed) [] are = absurd are
  keyed_pair (k ∷ keyed) (place ∷ places) are =
      let test : (bytes_eq first place.first && bytes_eq second place.second) ≡ same_key key k.0
      = ap (λ (b : Bool). b && bytes_eq second place.second) (same_number locations key.0 k.0.0 first place.first differ is_first are.0.first)
      ∙ ap (λ (b : Bool). nat_eq key.0 k.0.0 && b) (same_number locations key.1 k.0.1 second place.second differ is_second are.0.second) in
      subst (λ (b : Bool). AreKeyed locations (with_keyed (k ∷ keyed) key pair) (cond b (record { first = place.first; second = place.second; counted = with_one_more (Some place.counted) pair } ∷ places) (place ∷ with_pair places first second pair))) (sym test)
      (by (same_key key k.0) (keyed_pair keyed places are.1))
    where
      by : (b : Bool) → AreKeyed locations (with_keyed keyed key pair) (with_pair places first second pair)
          → AreKeyed locations (cond b ((k.0, with_one_more (cond b (Some k.1) (counted_of keyed key)) pair) ∷ keyed) (k ∷ insert_entry same_key keyed key (with_one_more (cond b (Some k.1) (counted_of keyed key)) pair)))
          (cond b (record { first = place.first; second = place.second; counted = with_one_more (Some place.counted) pair } ∷ places) (place ∷ with_pair places first second pair))
      by true rest = (record { first = are.0.first; second = are.0.second; counted = ap (λ (c : PlaceCount). with_one_more (Some c) pair) are.0.counted }, are.1)
      by false rest = (are.0, rest)

-- what is counted of them
pub keyed_counts : (locations : List (List ℕ)) (keyed : List Keyed) (places : List PlaceOf) → AreKeyed locations keyed places → map (λ k. k.1) keyed ≡ counts_in places
keyed_counts locations [] [] are = refl
keyed_counts locations [] (place ∷ places) are = absurd are
keyed_counts locations (k ∷ keyed) [] are = absurd are
keyed_counts locations (k ∷ keyed) (place ∷ places) are = ap (λ (c : PlaceCount). c ∷ map (λ (e : Keyed). e.1) keyed) are.0.counted ∙ ap (λ (l : List PlaceCount). place.counted ∷ l) (keyed_counts locations keyed places are.1)

pub keyed_few : (locations : List (List ℕ)) (n limit : ℕ) (key : Key) (keyed : List Keyed) (places : List PlaceOf) → n < limit → AreKeyed locations keyed places → AllByRecursion (λ place. place.counted.count ≤ n) places → IfSome (counted_of keyed key) (λ c. c.count < limit)
keyed_few locations n limit key [] places below are few = tt
keyed_few locations n limit key (k ∷ keyed) [] below are few = absurd are
keyed_few locations n limit key (k ∷ keyed) (place ∷ places) below are few = by (same_key key k.0) (keyed_few locations n limit key keyed places below are.1 few.1)
  where
    by : (b : Bool) → IfSome (counted_of keyed key) (λ c. c.count < limit) → IfSome (cond b (Some k.1) (counted_of keyed key)) (λ c. c.count < limit)
    by true rest = subst (λ (c : PlaceCount). c.count < limit) (sym are.0.counted) (let at_most = few.0 in omega (arith, at_most, below))
    by false rest = rest

-- with a location more, the others keep their numbers
pub number_stays : (locations : List (List ℕ)) (location known : List ℕ) (number : ℕ) → slice_get locations number ≡ Some known → slice_get (insert_key bytes_eq locations location) number ≡ Some known
number_stays locations location known number at = by (list_any (bytes_eq location) locations)
  where
    after : (ls : List (List ℕ)) (n : ℕ) → slice_get ls n ≡ Some known → slice_get (ls ++ location ∷ []) n ≡ Some known
    after [] n here = absurd (let f : ⊥ = cc in f)
    after (l ∷ ls) zero here = here
    after (l ∷ ls) (suc n) here = after ls n here

    by : (b : Bool) → slice_get (cond b locations (locations ++ location ∷ [])) number ≡ Some known
    by true = at
    by false = after locations number at

pub keyed_stay : (locations : List (List ℕ)) (location : List ℕ) (keyed : List Keyed) (places : List PlaceOf) → AreKeyed locations keyed places → AreKeyed (insert_key bytes_eq locations location) keyed places
keyed_stay locations location [] [] are = tt
keyed_stay locations location [] (place ∷ places) are = absurd are
keyed_stay locations location (k ∷ keyed) [] are = absurd are
keyed_stay locations location (k ∷ keyed) (place ∷ places) are =
    (record { first = number_stays locations location place.first k.0.0 are.0.first; second = number_stays locations location place.second k.0.1 are.0.second; counted = are.0.counted }, keyed_stay locations location keyed places are.1)

-- a count that is written where the numbers stand
pub written_at : (key : Key) (counted : PlaceCount) (entries : List Keyed) (i : ℕ) → position (same_key key) (keys_of entries) ≡ Some i → set_value_at entries i counted ≡ insert_entry same_key entries key counted
written_at key counted entries i at = sym (insert_entry-first same_key key counted entries i (Found-position (same_key key) entries i at).first)

-- numbers of no place are put last
pub put_last : (key : Key) (counted : PlaceCount) (entries : List Keyed) → counted_of entries key ≡ None → insert_entry same_key entries key counted ≡ entries ++ (key, counted) ∷ []
put_last key counted [] none = refl
put_last key counted (e ∷ entries) none = by (same_key key e.0) none (put_last key counted entries)
  where
    by : (b : Bool) → cond b (Some e.1) (counted_of entries key) ≡ None → (counted_of entries key ≡ None → insert_entry same_key entries key counted ≡ entries ++ (key, counted) ∷ [])
        → cond b ((e.0, counted) ∷ entries) (e ∷ insert_entry same_key entries key counted) ≡ (e ∷ entries) ++ (key, counted) ∷ []
    by true none rest = absurd (let f : ⊥ = cc in f)
    by false none rest = ap (λ (l : List Keyed). e ∷ l) (rest none)

pub put_new : (key : Key) (counted : PlaceCount) (entries : List Keyed) → is_some (counted_of entries key) ≡ false → insert_entry same_key entries key counted ≡ with_new entries key counted
put_new key counted entries none = grind (arith, common_steps, put_last, Option, is_some)

take_few : {A : Type 0} (n : ℕ) (xs : List A) → length (take n xs) ≤ n
take_few zero xs = omega arith
take_few (suc n) [] = omega arith
take_few (suc n) (x ∷ xs) = let rest = take_few n xs in omega (arith, rest)

-- of the first pairs no place has more than there are
pub few_so_far : (trace : TraceData) (pairs : List Pair) (k limit : ℕ) (locations : List (List ℕ)) (key : Key) (keyed : List Keyed) → k < limit → AreKeyed locations keyed (places_after trace [] (take k pairs)) → IfSome (counted_of keyed key) (λ c. c.count < limit)
few_so_far trace pairs k limit locations key keyed below are =
    let long = take_few k pairs in
    keyed_few locations (length (take k pairs) + 0) limit key keyed (places_after trace [] (take k pairs)) (omega (arith, long, below)) are (places_after_few trace 0 [] (take k pairs) tt)

-- the next pair, whose locations get numbers
pub next_keyed : (trace : TraceData) (pairs : List Pair) (k : ℕ) (d : Pair) (before between after : List (List ℕ)) (first second : List ℕ) (a b : ℕ) (keyed new : List Keyed) → k < length pairs
    → between ≡ insert_key bytes_eq before first → slice_get between a ≡ Some first → after ≡ insert_key bytes_eq between second → slice_get after b ≡ Some second
    → first ≡ location_at trace (get_or pairs k d).first → second ≡ location_at trace (get_or pairs k d).second
    → IsDistinct bytes_eq before → AreKeyed before keyed (places_after trace [] (take k pairs)) → new ≡ with_keyed keyed (a, b) (get_or pairs k d)
    → IsDistinct bytes_eq after × AreKeyed after new (places_after trace [] (take (k + 1) pairs))
next_keyed trace pairs k d before between after first second a b keyed new within known at_a known_too at_b e f differ are added =
    let places = places_after trace [] (take k pairs) in
    let differ_after : IsDistinct bytes_eq after = subst (IsDistinct bytes_eq) (sym known_too) (still_different between second (subst (IsDistinct bytes_eq) (sym known) (still_different before first differ))) in
    let are_between : AreKeyed between keyed places = subst (λ (ls : List (List ℕ)). AreKeyed ls keyed places) (sym known) (keyed_stay before first keyed places are) in
    let are_after : AreKeyed after keyed places = subst (λ (ls : List (List ℕ)). AreKeyed ls keyed places) (sym known_too) (keyed_stay between second keyed places are_between) in
    let still : slice_get after a ≡ Some first = subst (λ (ls : List (List ℕ)). slice_get ls a ≡ Some first) (sym known_too) (number_stays between second first a at_a) in (
      differ_after,
      subst (λ (l : List Keyed). AreKeyed after l (places_after trace [] (take (k + 1) pairs))) (sym added)
          (subst (AreKeyed after (with_keyed keyed (a, b) (get_or pairs k d))) (one_pair_more trace [] pairs k d first second within e f)
          (keyed_pair after differ_after (a, b) first second still at_b (get_or pairs k d) keyed places are_after)),
    )
