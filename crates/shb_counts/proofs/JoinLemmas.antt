-- Sums that are sorted by place, with those of one place added up; and these sorted by their races.
use Rattle.std.proofs.Common.{◌≡◌, ℕ, zero, suc, ◌+◌, ◌-◌, ◌<◌, ◌≤◌, ◌⊎◌, inl, inr, Bool, false, List, [], ◌∷◌, ◌++◌, Some, length, map, take, drop, get_or, refl, arith, ap, sym, subst, ◌∙◌, append-nil, append_assoc}
use Rattle.std.specs.Prelude.{All, AllPairs, Contains, cond, slice_get, slice_range, sum_by}
use Rattle.std.specs.Cmp.{IsTotalOrder}
use Rattle.std.specs.List.Sorted.{IsPermutation, IsSorted}
use Rattle.std.specs.Ordering.{is_lt, nat_cmp, ordering_then}
use Rattle.std.specs.declared.cmp.Ordering.{Ordering}
use Rattle.std.proofs.lemmas.Cmp.{nat_cmp_total, on_total, then_total}
use Rattle.std.proofs.lemmas.Grind.{common_steps}
use Rattle.std.proofs.lemmas.List.{drop-drop, drop_all, get_or-drop, get_or-take, length-drop, length-take, map-append, take-append-drop}
use Rattle.std.proofs.lemmas.List.Elements.{All-push, Contains-get_or, Contains-append_cases}
use Rattle.std.proofs.lemmas.List.Quantifiers.{all_pairs_push}
use Rattle.std.proofs.lemmas.List.Sorted.{All-permutation, IsPermutation-map, ranks_by, sorted_far}
use Rattle.std.proofs.lemmas.List.Sums.{count_by-le-length, sum_by-append, sum_by-cons}
use Rattle.std.proofs.lemmas.Option.{get_or_from_slice_get, slice_get-get_or, slice_get_within}
use Rattle.shb_lines.specs.declared.event.Event.{Event}
use Rattle.shb_lines.specs.declared.event.Pair.{Pair}
use Rattle.shb_lines.specs.events.Race.{variable_at}
use Rattle.shb_lines.proofs.events.Increasing.{contains_cases, contains_head, contains_none, contains_tail}
use Rattle.shb_format.specs.Keyed.{Key, same_key}
use Rattle.shb_format.specs.declared.places.PlaceCount.{PlaceCount}
use Rattle.shb_stamps.proofs.FlatMaps.{map_ordered, map_parts}
use Rattle.shb_counts.specs.Joined.{AreFirstRaces, ArePlacesOf, IsStretch, first_of, key_of, place_of, sum_cmp}
use Rattle.shb_counts.specs.Numbered.{key_in, number_in}
use Rattle.shb_counts.specs.PlaceSums.{ArePlaces, AreSums}
use Rattle.shb_counts.specs.Sums.{AreSumsOf, IsNotAfter, IsPlaceSum, sum_of}
use Rattle.shb_counts.specs.declared.places.FirstRace.{FirstRace}
use Rattle.shb_counts.specs.declared.sums.PlaceSum.{PlaceSum}
use Rattle.shb_counts.proofs.PlacesOfSums.{same_self}
use Rattle.shb_counts.proofs.SortedSums.{KeyLess, apart_from_rising, less_apart, sorted_places}
use Rattle.shb_counts.proofs.SumLemmas.{sums_joined, sums_permuted}

-- ---- some sums of one place, one after the other

module _ {T : Type 0} (key : T → Key) (Le : T → T → Type 0) (xs : List T) where
  pub stretch_joined : (us vs : List (T × ℕ)) (a : T × ℕ) (bs : List (T × ℕ)) → ((b : T × ℕ) → Contains bs b → (key a.0 ≡ key b.0) × ((race : T) → Le b.0 race → Le a.0 race))
      → AreSums key Le xs (us ++ a ∷ (bs ++ vs)) → AreSums key Le xs (us ++ (a.0, a.1 + sum_by (λ (b : T × ℕ). b.1) bs) ∷ vs)
  stretch_joined us vs a [] each h = subst (λ (n : ℕ). AreSums key Le xs (us ++ (a.0, n) ∷ vs)) (let e : a.1 ≡ a.1 + sum_by (λ (b : T × ℕ). b.1) [] = omega arith in e) h
  stretch_joined us vs a (b ∷ bs) each h =
      let own = each b (contains_head b bs) in
      let one = sums_joined key Le xs us (bs ++ vs) a b own.0 (λ race c low. own.1 race low) h in
      let more = sum_by-cons (λ (c : T × ℕ). c.1) b bs in
      subst (λ (n : ℕ). AreSums key Le xs (us ++ (a.0, n) ∷ vs)) (let e : (a.1 + b.1) + sum_by (λ (c : T × ℕ). c.1) bs ≡ a.1 + sum_by (λ (c : T × ℕ). c.1) (b ∷ bs) = omega (arith, more) in e)
      (stretch_joined us vs (a.0, a.1 + b.1) bs (λ c there. each c (contains_tail b c bs there)) one)

  -- a sum has no more races than there are
  pub sum_few : (us vs : List (T × ℕ)) (race : T) (n : ℕ) → AreSums key Le xs (us ++ (race, n) ∷ vs) → n ≤ length xs
  sum_few us vs race n h =
      let f = λ (s : T × ℕ). cond (same_key (key s.0) (key race)) s.1 0 in
      let all = sum_by-append f us ((race, n) ∷ vs) in
      let one = sum_by-cons f (race, n) vs in
      let own : f (race, n) ≡ n = ap (λ (b : Bool). cond b n 0) (same_self (key race)) in
      let count = h.counts (key race) in
      let few = count_by-le-length (λ (r : T). same_key (key r) (key race)) xs in
      omega (arith, all, one, own, count, few)

-- ---- the order of sums

pub sum_total : IsTotalOrder sum_cmp
sum_total =
    then_total (on_total (λ (s : PlaceSum). s.first) nat_cmp_total) (then_total (on_total (λ (s : PlaceSum). s.second) nat_cmp_total)
    (then_total (on_total (λ (s : PlaceSum). s.variable) nat_cmp_total) (then_total (on_total (λ (s : PlaceSum). s.later) nat_cmp_total)
    (then_total (on_total (λ (s : PlaceSum). s.earlier) nat_cmp_total) (on_total (λ (s : PlaceSum). s.count) nat_cmp_total)))))

-- by the variable, then by the later event, then by the earlier
abbrev RaceNotAfter : ℕ → ℕ → ℕ → ℕ → ℕ → ℕ → Type 0
RaceNotAfter x a b y c d = (x < y) ⊎ ((x ≡ y) × ((a < c) ⊎ ((a ≡ c) × (b ≤ d))))

then_not_less : (x y : ℕ) (o : Ordering) → is_lt (ordering_then (nat_cmp y x) o) ≡ false → (x < y) ⊎ ((x ≡ y) × (is_lt o ≡ false))
then_not_less x y o h = grind (arith, common_steps)

race_not_less : (x y a c b d : ℕ) (o : Ordering) → is_lt (ordering_then (nat_cmp y x) (ordering_then (nat_cmp c a) (ordering_then (nat_cmp d b) o))) ≡ false → RaceNotAfter x a b y c d
race_not_less x y a c b d o h = elim (then_not_less x y _ h) [
  | inl lt ↦ inl lt
  | inr same ↦ elim (then_not_less a c _ same.1) [
    | inl lt ↦ inr (same.0, inl lt)
    | inr also ↦ elim (then_not_less b d _ also.1) [
      | inl lt ↦ inr (same.0, inr (also.0, omega (arith, lt)))
      | inr last ↦ (let e = last.0 in inr (same.0, inr (also.0, omega (arith, e))))
    ]
  ]
]

-- of two sums in order: the first has a place before that of the second, or the same, and then its race doesn't stand after
sum_not_less : (a b : PlaceSum) → is_lt (sum_cmp b a) ≡ false → KeyLess (key_of a) (key_of b) ⊎ ((key_of a ≡ key_of b) × RaceNotAfter a.variable a.later a.earlier b.variable b.later b.earlier)
sum_not_less a b h = elim (then_not_less a.first b.first _ h) [
  | inl lt ↦ inl (inl lt)
  | inr same ↦ elim (then_not_less a.second b.second _ same.1) [
    | inl lt ↦ inl (inr (same.0, lt))
    | inr also ↦ inr (ap (λ (n : ℕ). (n, a.second)) same.0 ∙ ap (λ (n : ℕ). (b.first, n)) also.0, race_not_less a.variable b.variable a.later b.later a.earlier b.earlier _ also.1)
  ]
]

key_less_then : (p q r : Key) → KeyLess p q → KeyLess q r ⊎ (q ≡ r) → KeyLess p r
key_less_then p q r low (inr e) = subst (KeyLess p) e low
key_less_then p q r low (inl more) = both low more
  where
    both : KeyLess p q → KeyLess q r → KeyLess p r
    both (inl a) (inl b) = inl (omega (arith, a, b))
    both (inl a) (inr b) = let e = b.0 in inl (omega (arith, a, e))
    both (inr a) (inl b) = let e = a.0 in inl (omega (arith, b, e))
    both (inr a) (inr b) = let e = a.0 in let f = b.0 in let l = a.1 in let m = b.1 in inr (omega (arith, e, f), omega (arith, l, m))

not_after_then : (x y z a b c d e f : ℕ) → RaceNotAfter x a b y c d → RaceNotAfter y c d z e f → RaceNotAfter x a b z e f
not_after_then x y z a b c d e f low more = grind (arith, common_steps)

module _ (trace : List Event) (numbers : List ℕ) where
  pub key_is : (s : PlaceSum) → IsPlaceSum trace numbers s → key_in numbers (sum_of s).0 ≡ key_of s
  key_is s h = ap (λ (n : ℕ). (n, number_in numbers s.later)) h.first ∙ ap (λ (n : ℕ). (s.first, n)) h.second

  -- where a race doesn't stand after another, it doesn't stand after what the other doesn't stand after
  lower : (a b : PlaceSum) (race : Pair) → IsPlaceSum trace numbers a → IsPlaceSum trace numbers b → RaceNotAfter a.variable a.later a.earlier b.variable b.later b.earlier
      → IsNotAfter trace (sum_of b).0 race → IsNotAfter trace (sum_of a).0 race
  lower a b race ha hb low more x z of_x of_z =
      let same : x ≡ a.variable = (let s : Some x ≡ Some a.variable = sym of_x ∙ ha.variable in cc) in
      subst (λ (n : ℕ). RaceNotAfter n a.later a.earlier z race.second race.first) (sym same)
      (not_after_then a.variable b.variable z a.later a.earlier b.later b.earlier race.second race.first low (more b.variable z hb.variable of_z))

-- ---- lists

drop_at : {X : Type 0} (xs : List X) (n : ℕ) (x : X) → slice_get xs n ≡ Some x → drop n xs ≡ x ∷ drop (n + 1) xs
drop_at [] n x is = absurd (let bad = slice_get_within [] n x is in omega (arith, bad))
drop_at (y ∷ ys) zero x is = ap (λ z. z ∷ ys) (let s : Some y ≡ Some x = is in cc)
drop_at {X} (y ∷ ys) (suc n) x is = drop_at ys n x is ∙ ap (λ (m : ℕ). x ∷ drop m (y ∷ ys)) (let e : suc (n + 1) ≡ suc n + 1 = omega arith in e)

-- the first of some of them, the others, and the rest
cut_at : {X : Type 0} (xs : List X) (start end : ℕ) (x : X) → slice_get xs start ≡ Some x → start < end → drop start xs ≡ x ∷ (slice_range xs (start + 1) end ++ drop end xs)
cut_at {X} xs start end x is less =
    drop_at xs start x is ∙ ap (λ (l : List X). x ∷ l) (sym (take-append-drop (end - (start + 1)) (drop (start + 1) xs))
    ∙ ap (λ (l : List X). slice_range xs (start + 1) end ++ l) (drop-drop (end - (start + 1)) (start + 1) xs ∙ ap (λ (n : ℕ). drop n xs) (let e : (start + 1) + (end - (start + 1)) ≡ end = omega (arith, less) in e)))

range_at : {X : Type 0} (xs : List X) (start end : ℕ) (x : X) → slice_get xs start ≡ Some x → start < end → slice_range xs start end ≡ x ∷ slice_range xs (start + 1) end
range_at {X} xs start end x is less =
    ap (take (end - start)) (drop_at xs start x is) ∙ ap (λ (n : ℕ). take n (x ∷ drop (start + 1) xs)) (let e : end - start ≡ suc (end - (start + 1)) = omega (arith, less) in e)

-- what stands in a piece stands in the list
range_member : {X : Type 0} (xs : List X) (start end : ℕ) (x : X) → Contains (slice_range xs start end) x → (k : ℕ) × (start ≤ k) × (k < end) × (slice_get xs k ≡ Some x)
range_member xs start end x c =
    let rest = drop start xs in
    let long = length-take (end - start) rest in
    let left = length-drop start xs in
    let within = c.1 in
    let at : get_or xs (start + c.0) x ≡ x = sym (get_or-take (end - start) rest c.0 x (omega (arith, long, within)) ∙ get_or-drop start xs c.0 x) ∙ c.2 in
    (start + c.0, omega arith, omega (arith, long, within), slice_get-get_or xs (start + c.0) x (omega (arith, long, left, within)) ∙ ap (λ y. Some y) at)

-- ---- the loop over the places

module _ (trace : List Event) (numbers : List ℕ) (pairs : List Pair) where
  abbrev KeysRise : List FirstRace → Type 0
  KeysRise races = AllPairs (λ (a b : Pair × ℕ). KeyLess (key_in numbers a.0) (key_in numbers b.0)) (map first_of races)

  -- the sums before `start` are added up to these races, whose places stand before those of the other sums
  pub record IsJoined (sums : List PlaceSum) (start : ℕ) (races : List FirstRace) : Type 0 where
    pub within : start ≤ length sums
    pub variables : All (λ race. variable_at trace race.later ≡ Some race.variable) races
    pub added : AreSums (key_in numbers) (IsNotAfter trace) pairs (map first_of races ++ map sum_of (drop start sums))
    pub rising : KeysRise races
    pub below : (race : FirstRace) (j : ℕ) (sum : PlaceSum) → Contains races race → start ≤ j → slice_get sums j ≡ Some sum → KeyLess (key_in numbers (first_of race).0) (key_of sum)

  module _ (sums : List PlaceSum) (h : AreSumsOf trace numbers pairs sums) (sorted : IsSorted sum_cmp sums) (start end : ℕ) (stretch : IsStretch sums start end) (races : List FirstRace) (before : IsJoined sums start races) (one : PlaceSum) (there : slice_get sums start ≡ Some one) where
    each_is : (k : ℕ) (sum : PlaceSum) → slice_get sums k ≡ Some sum → IsPlaceSum trace numbers sum
    each_is k sum is = subst (IsPlaceSum trace numbers) (get_or_from_slice_get sums k sum sum is) (h.each k sum (slice_get_within sums k sum is))

    in_order : (i j : ℕ) (a b : PlaceSum) → slice_get sums i ≡ Some a → slice_get sums j ≡ Some b → i ≤ j → KeyLess (key_of a) (key_of b) ⊎ ((key_of a ≡ key_of b) × RaceNotAfter a.variable a.later a.earlier b.variable b.later b.earlier)
    in_order i j a b at_i at_j le =
        let up = sorted_far (λ p q. is_lt (sum_cmp p q)) (ranks_by sum_total (λ s. s)) sums sorted i j a le (slice_get_within sums j b at_j) in
        sum_not_less a b (subst (λ (s : PlaceSum). is_lt (sum_cmp b s) ≡ false) (get_or_from_slice_get sums i a a at_i) (subst (λ (s : PlaceSum). is_lt (sum_cmp s (get_or sums i a)) ≡ false) (get_or_from_slice_get sums j b a at_j) up))

    abbrev others : List PlaceSum
    others = slice_range sums (start + 1) end

    -- those of the same place
    alike : (sum : Pair × ℕ) → Contains (map sum_of others) sum → (key_in numbers (sum_of one).0 ≡ key_in numbers sum.0) × ((race : Pair) → IsNotAfter trace sum.0 race → IsNotAfter trace (sum_of one).0 race)
    alike sum c =
        let own = map_parts sum_of others sum c in
        let at = range_member sums (start + 1) end own.0 own.1 in
        let same = stretch.same at.0 one own.0 there (let le = at.1 in omega (arith, le)) at.2 at.3 in
        let is_one = each_is start one there in
        let is_own = each_is at.0 own.0 at.3 in
        let low : RaceNotAfter one.variable one.later one.earlier own.0.variable own.0.later own.0.earlier =
        elim (in_order start at.0 one own.0 there at.3 (let le = at.1 in omega (arith, le))) [
          | inl less ↦ absurd (less_apart (key_of one) (key_of own.0) less (sym same))
          | inr both ↦ both.1
        ] in
        subst (λ (s : Pair × ℕ). (key_in numbers (sum_of one).0 ≡ key_in numbers s.0) × ((race : Pair) → IsNotAfter trace s.0 race → IsNotAfter trace (sum_of one).0 race)) own.2
        (key_is trace numbers one is_one ∙ (sym same ∙ sym (key_is trace numbers own.0 is_own)), λ race more. lower trace numbers one own.0 race is_one is_own low more)

    cut : map first_of races ++ map sum_of (drop start sums) ≡ map first_of races ++ (sum_of one ∷ (map sum_of others ++ map sum_of (drop end sums)))
    cut = ap (λ (l : List (Pair × ℕ)). map first_of races ++ l) (ap (map sum_of) (cut_at sums start end one there stretch.more) ∙ ap (λ (l : List (Pair × ℕ)). sum_of one ∷ l) (map-append sum_of others (drop end sums)))

    abbrev total : ℕ
    total = one.count + sum_by (λ (s : Pair × ℕ). s.1) (map sum_of others)

    joined_here : AreSums (key_in numbers) (IsNotAfter trace) pairs (map first_of races ++ ((sum_of one).0, total) ∷ map sum_of (drop end sums))
    joined_here = stretch_joined (key_in numbers) (IsNotAfter trace) pairs (map first_of races) (map sum_of (drop end sums)) (sum_of one) (map sum_of others) alike (subst (AreSums (key_in numbers) (IsNotAfter trace) pairs) cut before.added)

    pub stretch_count : sum_by (λ (s : PlaceSum). s.count) (slice_range sums start end) ≡ total
    stretch_count = ap (sum_by (λ (s : PlaceSum). s.count)) (range_at sums start end one there stretch.more) ∙ (sum_by-cons (λ (s : PlaceSum). s.count) one others ∙ ap (λ (n : ℕ). one.count + n) (sym (sum_by_map others)))
      where
        sum_by_map : (l : List PlaceSum) → sum_by (λ (s : Pair × ℕ). s.1) (map sum_of l) ≡ sum_by (λ (s : PlaceSum). s.count) l
        sum_by_map [] = refl
        sum_by_map (s ∷ l) = let first = sum_by-cons (λ (t : Pair × ℕ). t.1) (sum_of s) (map sum_of l) in let second = sum_by-cons (λ (t : PlaceSum). t.count) s l in let rest = sum_by_map l in omega (arith, first, second, rest)

    pub stretch_few : sum_by (λ (s : PlaceSum). s.count) (slice_range sums start end) ≤ length pairs
    stretch_few = let few = sum_few (key_in numbers) (IsNotAfter trace) pairs (map first_of races) (map sum_of (drop end sums)) (sum_of one).0 total joined_here in omega (arith, few, stretch_count)

    module _ (race : FirstRace) (of_variable : race.variable ≡ one.variable) (of_later : race.later ≡ one.later) (of_earlier : race.earlier ≡ one.earlier) (of_count : race.count ≡ sum_by (λ (s : PlaceSum). s.count) (slice_range sums start end)) where
      first_is : first_of race ≡ ((sum_of one).0, total)
      first_is = ap (λ (n : ℕ). (let p : Pair × ℕ = (record { first = n; second = race.later }, race.count) in p)) of_earlier
          ∙ (ap (λ (n : ℕ). (let p : Pair × ℕ = (record { first = one.earlier; second = n }, race.count) in p)) of_later
          ∙ ap (λ (n : ℕ). (let p : Pair × ℕ = (record { first = one.earlier; second = one.later }, n) in p)) (of_count ∙ stretch_count))

      own_key : key_in numbers (first_of race).0 ≡ key_of one
      own_key = ap (λ (s : Pair × ℕ). key_in numbers s.0) first_is ∙ key_is trace numbers one (each_is start one there)

      own_below : (j : ℕ) (sum : PlaceSum) → end ≤ j → slice_get sums j ≡ Some sum → KeyLess (key_of one) (key_of sum)
      own_below j sum le is =
          let last = slice_get-get_or sums end sum (let w = slice_get_within sums j sum is in omega (arith, w, le)) in
          let next = get_or sums end sum in
          elim (in_order start end one next there last (let m = stretch.more in omega (arith, m))) [
            | inr both ↦ absurd (stretch.next one next there last (sym both.0))
            | inl less ↦ key_less_then (key_of one) (key_of next) (key_of sum) less (elim (in_order end j next sum last is le) [ inl more ↦ inl more | inr both ↦ inr both.0 ])
          ]

      pub next_joined : IsJoined sums end (races ++ race ∷ [])
      next_joined = record {
        within = stretch.within;
        variables = All-push (λ (r : FirstRace). variable_at trace r.later ≡ Some r.variable) races race before.variables (ap (variable_at trace) of_later ∙ ((each_is start one there).variable ∙ ap (λ (n : ℕ). Some n) (sym of_variable)));
        added = subst (AreSums (key_in numbers) (IsNotAfter trace) pairs) (sym added_list) joined_here;
        rising = subst (λ (l : List (Pair × ℕ)). AllPairs (λ (a b : Pair × ℕ). KeyLess (key_in numbers a.0) (key_in numbers b.0)) l) (sym (map-append first_of races (race ∷ [])))
            (all_pairs_push (λ (a b : Pair × ℕ). KeyLess (key_in numbers a.0) (key_in numbers b.0)) (map first_of races) (first_of race) before.rising (λ k d lt. last k d lt));
        below = λ r j sum c le is. elim (Contains-append_cases races (race ∷ []) r c) [
          | inl old ↦ before.below r j sum old (let m = stretch.more in omega (arith, m, le)) is
          | inr new ↦ elim (contains_cases race r [] new) [
            | inl same ↦ subst (λ (q : FirstRace). KeyLess (key_in numbers (first_of q).0) (key_of sum)) same (subst (λ (k : Key). KeyLess k (key_of sum)) (sym own_key) (own_below j sum le is))
            | inr none ↦ absurd (contains_none r none)
          ]
        ];
      }
        where
          added_list : map first_of (races ++ race ∷ []) ++ map sum_of (drop end sums) ≡ map first_of races ++ ((sum_of one).0, total) ∷ map sum_of (drop end sums)
          added_list = ap (λ (l : List (Pair × ℕ)). l ++ map sum_of (drop end sums)) (map-append first_of races (race ∷ []) ∙ ap (λ (s : Pair × ℕ). map first_of races ++ s ∷ []) first_is) ∙ append_assoc (map first_of races) (((sum_of one).0, total) ∷ []) (map sum_of (drop end sums))

          last : (k : ℕ) (d : Pair × ℕ) → k < length (map first_of races) → KeyLess (key_in numbers (get_or (map first_of races) k d).0) (key_in numbers (first_of race).0)
          last k d lt =
              let own = map_parts first_of races (get_or (map first_of races) k d) (Contains-get_or (map first_of races) k d lt) in
              subst (λ (s : Pair × ℕ). KeyLess (key_in numbers s.0) (key_in numbers (first_of race).0)) own.2
              (subst (KeyLess (key_in numbers (first_of own.0).0)) (sym own_key) (before.below own.0 start one own.1 (omega arith) there))

  pub all_joined : (sums : List PlaceSum) (start : ℕ) (races : List FirstRace) → length sums ≤ start → IsJoined sums start races → AreFirstRaces trace numbers pairs races
  all_joined sums start races le h = record {
    variables = h.variables;
    sums = subst (AreSums (key_in numbers) (IsNotAfter trace) pairs) (ap (λ (l : List PlaceSum). map first_of races ++ map sum_of l) (drop_all start sums le) ∙ append-nil (map first_of races)) h.added;
    apart = apart_from_rising (key_in numbers) (IsNotAfter trace) (map first_of races) h.rising;
  }

-- ---- sorted by their races

abbrev pub race_cmp : FirstRace → FirstRace → Ordering
race_cmp a b = ordering_then (nat_cmp a.variable b.variable) (ordering_then (nat_cmp a.later b.later) (ordering_then (nat_cmp a.earlier b.earlier) (nat_cmp a.count b.count)))

race_total : IsTotalOrder race_cmp
race_total =
    then_total (on_total (λ (r : FirstRace). r.variable) nat_cmp_total) (then_total (on_total (λ (r : FirstRace). r.later) nat_cmp_total)
    (then_total (on_total (λ (r : FirstRace). r.earlier) nat_cmp_total) (on_total (λ (r : FirstRace). r.count) nat_cmp_total)))

module _ (trace : List Event) (numbers : List ℕ) (pairs : List Pair) where
  races_in_order : (races : List FirstRace) → All (λ race. variable_at trace race.later ≡ Some race.variable) races → IsSorted race_cmp races → AllPairs (λ (a b : Pair × ℕ). IsNotAfter trace a.0 b.0) (map first_of races)
  races_in_order races variables sorted = map_ordered (λ (a b : Pair × ℕ). IsNotAfter trace a.0 b.0) first_of races (λ i j d low within x y of_x of_y.
      let a = get_or races i d in
      let b = get_or races j d in
      let up = sorted_far (λ p q. is_lt (race_cmp p q)) (ranks_by race_total (λ r. r)) races sorted i j d (omega (arith, low)) within in
      let same_x : x ≡ a.variable = (let s : Some x ≡ Some a.variable = sym of_x ∙ variables i d (omega (arith, low, within)) in cc) in
      let same_y : y ≡ b.variable = (let s : Some y ≡ Some b.variable = sym of_y ∙ variables j d within in cc) in
      subst (λ (n : ℕ). RaceNotAfter n a.later a.earlier y b.later b.earlier) (sym same_x) (subst (λ (n : ℕ). RaceNotAfter a.variable a.later a.earlier n b.later b.earlier) (sym same_y)
      (race_not_less a.variable b.variable a.later b.later a.earlier b.earlier (nat_cmp b.count a.count) up)))

  counts_back : (races : List FirstRace) → map (λ (p : PlaceCount). (p.pair, p.count)) (map place_of races) ≡ map first_of races
  counts_back [] = refl
  counts_back (r ∷ races) = ap (λ (l : List (Pair × ℕ)). first_of r ∷ l) (counts_back races)

  pub sorted_are_places : (races sorted : List FirstRace) (places : List PlaceCount) → AreFirstRaces trace numbers pairs races → IsPermutation races sorted → IsSorted race_cmp sorted → places ≡ map place_of sorted → ArePlacesOf trace numbers pairs places
  sorted_are_places races sorted places h p up is =
      subst (ArePlaces (key_in numbers) (IsNotAfter trace) pairs) (sym (ap (map (λ (q : PlaceCount). (q.pair, q.count))) is ∙ counts_back sorted))
      (sorted_places (key_in numbers) (IsNotAfter trace) pairs (map first_of races) (map first_of sorted) h.sums h.apart (IsPermutation-map first_of races sorted p)
      (races_in_order sorted (All-permutation (λ race. variable_at trace race.later ≡ Some race.variable) races sorted p h.variables) up))

  -- the sums in another order
  pub sums_sorted : (sums sorted : List PlaceSum) → IsPermutation sums sorted → AreSumsOf trace numbers pairs sums → AreSumsOf trace numbers pairs sorted
  sums_sorted sums sorted p h = record {
    each = All-permutation (IsPlaceSum trace numbers) sums sorted p h.each;
    are_sums = sums_permuted (key_in numbers) (IsNotAfter trace) pairs (map sum_of sums) (map sum_of sorted) (IsPermutation-map sum_of sums sorted p) h.are_sums;
  }
