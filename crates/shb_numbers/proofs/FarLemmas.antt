-- Sets of numbers of which some are kept one by one.
use Rattle.std.proofs.Common.{◌≡◌, ◌≢◌, ℕ, zero, suc, ◌+◌, ◌-◌, ◌<◌, ◌≤◌, ◌&&◌, ◌||◌, ◌⊎◌, Bool, true, false, not, List, [], ◌∷◌, length, get_or, refl, ap, sym, subst, ◌∙◌, inl, inr, arith, add-one, eq-eqb, eqb, true≢false}
use Rattle.std.specs.Prelude.{Err, MatchOption, MatchResult, None, OnOk, Ok, Option, Result, Some, is_ok, unwrap_or}
use Rattle.std.specs.Option.{option_or}
use Rattle.std.proofs.lemmas.Bool.{cases_eq, cases_lt}
use Rattle.std.proofs.lemmas.List.Folds.{list_any_at}
use Rattle.std.specs.List.{insert}
use Rattle.std.proofs.lemmas.List.Sorted.{searched}
use Rattle.std.specs.List.Sorted.{IsBinarySearchResult, IsStrictlyIncreasing}
use Rattle.std.specs.Ordering.{eq_by_cmp, nat_cmp}
use Rattle.std.specs.FinSet as fin
use Rattle.std.specs.Cmp.{nat_cmp_total, unsigned_tied}
use Rattle.shb_numbers.specs.Numbers.{HasNone, IsLeast, Numbers, both, has_key}
use Rattle.shb_numbers.proofs.SetLemmas.{eqb_other, more, same_numbers}

pub contains_both : (near : Numbers) (far : List ℕ) (q : ℕ) → fin.contains (both near far) q ≡ (fin.contains near q || has_key far q)
unfolding both
contains_both near far q = fin.contains-union nat_cmp_total near (fin.from_list far) q ∙ ap (λ b. fin.contains near q || b) (fin.contains-from_list nat_cmp_total far q)

tied : (k : ℕ) → eq_by_cmp nat_cmp k k ≡ true
tied k = unsigned_tied k k ∙ eq-eqb k k refl

pub untied : (q k : ℕ) → q ≢ k → eq_by_cmp nat_cmp q k ≡ false
untied q k other = unsigned_tied q k ∙ eqb_other q k other

inserted : (s : Numbers) (k : ℕ) → fin.contains (fin.insert s k) k ≡ true
inserted s k = fin.contains-insert nat_cmp_total s k k ∙ ap (λ b. b || fin.contains s k) (tied k)

inserted_other : (s : Numbers) (k q : ℕ) → q ≢ k → fin.contains (fin.insert s k) q ≡ fin.contains s q
inserted_other s k q other = fin.contains-insert nat_cmp_total s k q ∙ ap (λ b. b || fin.contains s q) (untied q k other)

or_true : (a b : Bool) → b ≡ true → (a || b) ≡ true
or_true true b is = refl
or_true false b is = is

or_parts : (a b : Bool) → a ≡ false → b ≡ false → (a || b) ≡ false
or_parts false b a_is b_is = b_is
or_parts true b a_is b_is = a_is

-- one number more among the near ones
pub near_more : (near new : Numbers) (far : List ℕ) (number : ℕ) → new ≡ fin.insert near number → both new far ≡ fin.insert (both near far) number
near_more near new far number is =
    more (both near far) (both new far) number
    (contains_both new far number ∙ ap (λ b. b || has_key far number) (ap (λ s. fin.contains s number) is ∙ inserted near number))
    (λ k other. contains_both new far k ∙ ap (λ b. b || has_key far k) (ap (λ s. fin.contains s k) is ∙ inserted_other near number k other) ∙ sym (contains_both near far k))

-- one number more among the far ones
pub far_more : (near : Numbers) (far new : List ℕ) (number : ℕ) → has_key new number ≡ true → ((q : ℕ) → q ≢ number → has_key new q ≡ has_key far q)
    → both near new ≡ fin.insert (both near far) number
far_more near far new number there others =
    more (both near far) (both near new) number
    (contains_both near new number ∙ or_true (fin.contains near number) _ there)
    (λ k other. contains_both near new k ∙ ap (λ b. fin.contains near k || b) (others k other) ∙ sym (contains_both near far k))

-- numbers that rise
rising_pair : (xs : List ℕ) (i j : ℕ) → IsStrictlyIncreasing xs → i ≤ j → j < length xs → get_or xs i 0 ≤ get_or xs j 0
rising_pair xs i zero rising le lt = let e : i ≡ 0 = omega (arith, le) in subst (λ (m : ℕ). get_or xs m 0 ≤ get_or xs 0 0) (sym e) (omega arith)
rising_pair xs i (suc j) rising le lt = elim (cases_lt j i) [
  | inl past ↦ (let e : i ≡ suc j = omega (arith, le, past) in subst (λ (m : ℕ). get_or xs m 0 ≤ get_or xs (suc j) 0) (sym e) (omega arith))
  | inr more ↦ (let ih = rising_pair xs i j rising more (omega (arith, lt)) in let next = rising j (omega (arith, lt)) in rw (← add-one) (let r : get_or xs i 0 ≤ get_or xs (j + 1) 0 = omega (arith, ih, next) in r))
]

has_here : (xs : List ℕ) (at q : ℕ) → at < length xs → get_or xs at 0 ≡ q → has_key xs q ≡ true
has_here xs at q inside is = list_any_at (eq_by_cmp nat_cmp q) xs at 0 inside (unsigned_tied q (get_or xs at 0) ∙ eq-eqb _ _ (sym is))

has_nowhere : (xs : List ℕ) (q : ℕ) → ((k : ℕ) → k < length xs → get_or xs k 0 ≢ q) → has_key xs q ≡ false
has_nowhere [] q none = refl
has_nowhere (x ∷ xs) q none = or_parts _ _ (untied q x (λ is. none 0 (omega arith) (sym is))) (has_nowhere xs q (λ k inside. none (suc k) (omega (arith, inside))))

-- a number would be at an index
module _ (xs : List ℕ) (rising : IsStrictlyIncreasing xs) (at : ℕ) (q : ℕ) (below : (k : ℕ) → k < at → get_or xs k 0 < q) where
  pub has_not : (at < length xs → q < get_or xs at 0) → has_key xs q ≡ false
  has_not above = has_nowhere xs q
      (λ k inside is. elim (cases_lt k at) [
        | inl before ↦ (let less = below k before in omega (arith, less, is))
        | inr from ↦ (let more = above (omega (arith, from, inside)) in let le = rising_pair xs at k rising from inside in omega (arith, more, le, is))
      ])

  pub has_last : at < length xs → q ≤ get_or xs at 0 → has_key xs q ≡ eqb (get_or xs at 0) q
  has_last inside from = elim (cases_eq (get_or xs at 0) q) [
    | inl same ↦ has_here xs at q inside same ∙ sym (eq-eqb _ _ same)
    | inr other ↦ has_not (λ there. omega (arith, from, other)) ∙ sym (eqb_other _ _ other)
  ]

-- a number comes to its place
module _ (xs : List ℕ) (q : ℕ) where
  pub others_stay : (at x : ℕ) → at ≤ length xs → q ≢ x → has_key (insert xs at x) q ≡ has_key xs q
  others_stay = by xs where
    by : (xs : List ℕ) (at x : ℕ) → at ≤ length xs → q ≢ x → has_key (insert xs at x) q ≡ has_key xs q
    by xs zero x inside other = ap (λ b. b || has_key xs q) (untied q x other)
    by [] (suc at) x inside other = absurd (omega (arith, inside))
    by (y ∷ xs) (suc at) x inside other = ap (λ b. eq_by_cmp nat_cmp q y || b) (by xs at x (omega (arith, inside)) other)

pub rises_with : (xs new : List ℕ) (at x : ℕ) → IsStrictlyIncreasing xs → at ≤ length xs → length new ≡ length xs + 1 → get_or new at 0 ≡ x
    → ((k : ℕ) → k < at → get_or new k 0 ≡ get_or xs k 0) → ((k : ℕ) → at < k → get_or new k 0 ≡ get_or xs (k - 1) 0)
    → ((k : ℕ) → k < at → get_or xs k 0 < x) → ((k : ℕ) → at ≤ k → k < length xs → x < get_or xs k 0) → IsStrictlyIncreasing new
rises_with xs new at x rising fits long here before after less more k inside =
    elim (cases_lt (k + 1) at) [
      | inl low ↦ (let a = before k (omega (arith, low)) in let b = before (k + 1) low in let c = rising k (omega (arith, low, fits)) in omega (arith, a, b, c))
      | inr high ↦ elim (cases_eq (k + 1) at) [
        | inl same ↦
            (let a = before k (omega (arith, same)) in let b = ap (λ (m : ℕ). get_or new m 0) same in let c = less k (omega (arith, same)) in omega (arith, a, b, c, here))
        | inr other ↦
            (let e : k + 1 - 1 ≡ k = omega arith in
            let b = after (k + 1) (omega (arith, high, other)) ∙ ap (λ (m : ℕ). get_or xs m 0) e in
            elim (cases_eq k at) [
              | inl last ↦ (let a = ap (λ (m : ℕ). get_or new m 0) last in let c = more k (omega (arith, last)) (omega (arith, inside, long)) in omega (arith, a, b, c, here))
              | inr past ↦
                  (let a = after k (omega (arith, high, other, past)) in
                  let f : k - 1 + 1 ≡ k = omega (arith, high, other, past) in
                  let c = rising (k - 1) (omega (arith, inside, long, f)) in
                  let d = ap (λ (m : ℕ). get_or xs m 0) f in omega (arith, a, b, c, d))
            ])
      ]
    ]

-- what a binary search says
module _ (xs found : List ℕ) (at q : ℕ) (same : found ≡ xs) (rising : IsStrictlyIncreasing xs) where
  searched_in : (r : Result ℕ ℕ) → IsBinarySearchResult (λ y. nat_cmp y q) found r
      → MatchResult r (λ i. (i < length xs) × (get_or xs i 0 ≡ q)) (λ i. (i ≤ length xs) × ((k : ℕ) → k < i → get_or xs k 0 < q) × ((k : ℕ) → i ≤ k → k < length xs → q < get_or xs k 0))
  searched_in r is = searched xs q r (subst (λ (l : List ℕ). IsBinarySearchResult (λ y. nat_cmp y q) l r) same is) (λ i j le inside. rising_pair xs i j rising le inside)

  pub search_found : IsBinarySearchResult (λ y. nat_cmp y q) found (Ok at) → has_key xs q ≡ true
  search_found is = (let there = searched_in (Ok at) is in has_here xs at q there.0 there.1)

  pub place_of : IsBinarySearchResult (λ y. nat_cmp y q) found (Err at) → (at ≤ length xs) × ((k : ℕ) → k < at → get_or xs k 0 < q) × ((k : ℕ) → at ≤ k → k < length xs → q < get_or xs k 0)
  place_of is = searched_in (Err at) is

pub search_tells : (xs : List ℕ) (q : ℕ) → IsStrictlyIncreasing xs → (r : Result ℕ ℕ) → IsBinarySearchResult (λ y. nat_cmp y q) xs r → is_ok r ≡ has_key xs q
search_tells xs q rising (Ok at) is = sym (search_found xs xs at q refl rising is)
search_tells xs q rising (Err at) is = (let place = place_of xs xs at q refl rising is in sym (has_not xs rising at q place.1 (λ inside. place.2 at (omega arith) inside)))

-- where each far number is near too, they can be left out
either_false : (b : Bool) → (b || false) ≡ b
either_false true = refl
either_false false = refl

near_too : (near : Numbers) (far : List ℕ) (q : ℕ) → ((k : ℕ) → k < length far → fin.contains near (get_or far k 0) ≡ true) → (fin.contains near q || has_key far q) ≡ fin.contains near q
near_too near [] q all = either_false (fin.contains near q)
near_too near (x ∷ far) q all =
    elim (cases_eq q x) [
      | inl same ↦ or_left (fin.contains near q) _ (ap (fin.contains near) same ∙ all 0 (omega arith))
      | inr other ↦ ap (λ b. fin.contains near q || (b || has_key far q)) (untied q x other) ∙ near_too near far q (λ k inside. all (suc k) (omega (arith, inside)))
    ] where
      or_left : (a b : Bool) → a ≡ true → (a || b) ≡ a
      or_left true b is = refl
      or_left false b is = absurd (true≢false (sym is))

pub all_near : (near : Numbers) (far none : List ℕ) → none ≡ [] → ((k : ℕ) → k < length far → fin.contains near (get_or far k 0) ≡ true) → both near none ≡ both near far
all_near near far none is all =
    same_numbers (both near none) (both near far)
    (λ q. contains_both near none q ∙ ap (λ l. fin.contains near q || has_key l q) is ∙ either_false (fin.contains near q) ∙ sym (contains_both near far q ∙ near_too near far q all))

-- a far number becomes a near one too
pub brought : (near new : Numbers) (far : List ℕ) (at : ℕ) → new ≡ fin.insert near (get_or far at 0) → at < length far → both new far ≡ both near far
brought near new far at is inside =
    same_numbers (both new far) (both near far)
    (λ q. contains_both new far q ∙ elim (cases_eq q (get_or far at 0)) [
      | inl same ↦ or_true (fin.contains new q) _ (has_here far at q inside (sym same)) ∙ sym (contains_both near far q ∙ or_true (fin.contains near q) _ (has_here far at q inside (sym same)))
      | inr other ↦ ap (λ b. b || has_key far q) (ap (λ s. fin.contains s q) is ∙ inserted_other near (get_or far at 0) q other) ∙ sym (contains_both near far q)
    ])

pub near_up_to : (near new : Numbers) (far : List ℕ) (at : ℕ) → new ≡ fin.insert near (get_or far at 0) → ((k : ℕ) → k < at → fin.contains near (get_or far k 0) ≡ true)
    → (k : ℕ) → k < at + 1 → fin.contains new (get_or far k 0) ≡ true
near_up_to near new far at is all k below =
    elim (cases_eq (get_or far k 0) (get_or far at 0)) [
      | inl same ↦ ap (λ s. fin.contains s (get_or far k 0)) is ∙ ap (fin.contains (fin.insert near (get_or far at 0))) same ∙ inserted near (get_or far at 0)
      | inr other ↦ ap (λ s. fin.contains s (get_or far k 0)) is ∙ inserted_other near (get_or far at 0) (get_or far k 0) other ∙ all k (before (cases_eq k at) other)
    ] where
      before : (k ≡ at) ⊎ (k ≢ at) → get_or far k 0 ≢ get_or far at 0 → k < at
      before (inl same) other = absurd (other (ap (λ (m : ℕ). get_or far m 0) same))
      before (inr apart) other = omega (arith, below, apart)

-- the numbers of one set that aren't in another
differs : (s t : Numbers) (q : ℕ) → fin.contains (fin.difference s t) q ≡ (fin.contains s q && not (fin.contains t q))
differs s t q = fin.contains-difference nat_cmp_total s t q

and_false : (a b : Bool) → b ≡ true → (a && not b) ≡ false
and_false true b is = ap not is
and_false false b is = refl

pub in_other : (s t : Numbers) (q : ℕ) → fin.contains t q ≡ true → fin.contains (fin.difference s t) q ≡ false
in_other s t q is = differs s t q ∙ and_false (fin.contains s q) _ is

not_here : (s t : Numbers) (q : ℕ) → fin.contains s q ≡ false → fin.contains (fin.difference s t) q ≡ false
not_here s t q is = differs s t q ∙ ap (λ b. b && not (fin.contains t q)) is

weaker : (a b c : Bool) → (a && not b) ≡ false → (a && not (b || c)) ≡ false
weaker true true c is = refl
weaker true false c is = absurd_true c is where
  absurd_true : (c : Bool) → true ≡ false → not c ≡ false
  absurd_true true bad = refl
  absurd_true false bad = bad
weaker false b c is = refl

wider : (s near : Numbers) (far : List ℕ) (q : ℕ) → fin.contains (fin.difference s near) q ≡ false → fin.contains (fin.difference s (both near far)) q ≡ false
wider s near far q is =
    differs s (both near far) q ∙ ap (λ b. fin.contains s q && not b) (contains_both near far q)
    ∙ weaker (fin.contains s q) (fin.contains near q) (has_key far q) (sym (differs s near q) ∙ is)

same_there : (s near : Numbers) (far : List ℕ) (q : ℕ) → has_key far q ≡ false → fin.contains (fin.difference s (both near far)) q ≡ fin.contains (fin.difference s near) q
same_there s near far q is =
    differs s (both near far) q ∙ ap (λ b. fin.contains s q && not b) (contains_both near far q ∙ ap (λ b. fin.contains near q || b) is)
    ∙ or_none (fin.contains s q) (fin.contains near q) ∙ sym (differs s near q) where
      or_none : (a b : Bool) → (a && not (b || false)) ≡ (a && not b)
      or_none a true = refl
      or_none a false = refl

-- none up to `at`, and none from there
pub joined : (s : Numbers) (from at end : ℕ) → HasNone s from at → HasNone s at end → HasNone s from end
joined s from at end before after q above below =
    elim (cases_lt q at) [
      | inl low ↦ before q above low
      | inr high ↦ after q high below
    ]

-- and none at the next
pub one_further : (s : Numbers) (from at : ℕ) → HasNone s from at → fin.contains s at ≡ false → HasNone s from (at + 1)
one_further s from at before here q above below =
    elim (cases_lt q at) [
      | inl low ↦ before q above low
      | inr high ↦ let same : q ≡ at = omega arith in ap (fin.contains s) same ∙ here
    ]

module _ (s near : Numbers) (far : List ℕ) (from at end : ℕ) (passed : HasNone (fin.difference s (both near far)) from at) where
  -- none that isn't near
  pub none_near : HasNone (fin.difference s near) at end → HasNone (fin.difference s (both near far)) from end
  none_near none = joined (fin.difference s (both near far)) from at end passed (λ q above below. wider s near far q (none q above below))

  module _ (k : ℕ) (least : IsLeast (fin.difference s near) at end k) where
    before_it : HasNone (fin.difference s (both near far)) from k
    before_it = joined (fin.difference s (both near far)) from at k passed (λ q above below. wider s near far q (least.least q above below))

    -- the least that isn't near isn't far
    pub least_near : from ≤ at → has_key far k ≡ false → IsLeast (fin.difference s (both near far)) from end k
    least_near start other = record {
      low = omega (arith, least.low, start);
      high = least.high;
      has = same_there s near far k other ∙ least.has;
      least = before_it;
    }

    -- or is
    pub passed_near : has_key far k ≡ true → HasNone (fin.difference s (both near far)) from (k + 1)
    passed_near there =
        one_further (fin.difference s (both near far)) from k before_it
        (in_other s (both near far) k (contains_both near far k ∙ or_true (fin.contains near k) _ there))

-- the far numbers as a set
pub contains_keys : (keys : List ℕ) (q : ℕ) → fin.contains (fin.from_list {R = nat_cmp} keys) q ≡ has_key keys q
contains_keys keys q = fin.contains-from_list nat_cmp_total keys q

-- the far numbers before an index are below `from` or in the other set
abbrev pub HasPassed : List ℕ → Numbers → ℕ → ℕ → Type 0
HasPassed far t from at = (q : ℕ) → from ≤ q → (at < length far → q < get_or far at 0) → fin.contains (fin.difference (fin.from_list {R = nat_cmp} far) t) q ≡ false

module _ (far : List ℕ) (rising : IsStrictlyIncreasing far) (t : Numbers) (from at : ℕ) where
  pub passed_first : ((k : ℕ) → k < at → get_or far k 0 < from) → HasPassed far t from at
  passed_first below q above less =
      not_here (fin.from_list far) t q (contains_keys far q ∙ has_not far rising at q (λ k before. (let low = below k before in omega (arith, low, above))) less)

  module _ (passed : HasPassed far t from at) where
    pub none_far : (end : ℕ) → (at < length far → end ≤ get_or far at 0) → HasNone (fin.difference (fin.from_list {R = nat_cmp} far) t) from end
    none_far end over q above below = passed q above (λ inside. (let le = over inside in omega (arith, le, below)))

    pub least_far : (end k : ℕ) → at < length far → k ≡ get_or far at 0 → from ≤ k → k < end → fin.contains t k ≡ false → IsLeast (fin.difference (fin.from_list {R = nat_cmp} far) t) from end k
    least_far end k inside is start below other = record {
      low = start;
      high = below;
      has = differs (fin.from_list far) t k ∙ ap (λ b. b && not (fin.contains t k)) (contains_keys far k ∙ has_here far at k inside (sym is)) ∙ ap not other;
      least = λ q above less. passed q above (λ there. omega (arith, less, is));
    }

    pub passed_far : at < length far → fin.contains t (get_or far at 0) ≡ true → HasPassed far t from (at + 1)
    passed_far inside there q above less =
        elim (cases_lt q (get_or far at 0)) [
          | inl low ↦ passed q above (λ same. low)
          | inr high ↦ elim (cases_eq q (get_or far at 0)) [
            | inl same ↦ in_other (fin.from_list far) t q (ap (fin.contains t) same ∙ there)
            | inr other ↦
                not_here (fin.from_list far) t q (contains_keys far q
                ∙ has_not far rising (at + 1) q (λ k before. (let le = rising_pair far k at rising (omega (arith, before)) inside in omega (arith, le, high, other))) less)
          ]
        ]

-- a number is in the other set by its near numbers or by its far ones, or isn't
module _ (near : Numbers) (far found : List ℕ) (other : Numbers) (q : ℕ) (other_is : both near far ≡ other) (same : found ≡ far) where
  is_in : fin.contains other q ≡ (fin.contains near q || has_key found q)
  is_in = ap (λ s. fin.contains s q) (sym other_is) ∙ contains_both near far q ∙ ap (λ l. fin.contains near q || has_key l q) (sym same)

  pub in_neither : fin.contains near q ≡ false → has_key found q ≡ false → fin.contains other q ≡ false
  in_neither first second = is_in ∙ or_parts _ _ first second

  pub in_near : fin.contains near q ≡ true → fin.contains other q ≡ true
  in_near first = is_in ∙ ap (λ b. b || has_key found q) first

  pub in_far : has_key found q ≡ true → fin.contains other q ≡ true
  in_far second = is_in ∙ or_true (fin.contains near q) _ second

-- the least of both
split : (near : Numbers) (far : List ℕ) (t : Numbers) (q : ℕ) → fin.contains (fin.difference (both near far) t) q
    ≡ (fin.contains (fin.difference near t) q || fin.contains (fin.difference (fin.from_list {R = nat_cmp} far) t) q)
split near far t q =
    differs (both near far) t q ∙ ap (λ b. b && not (fin.contains t q)) (contains_both near far q)
    ∙ spread (fin.contains near q) (has_key far q) (not (fin.contains t q))
    ∙ ap (λ b. b || (has_key far q && not (fin.contains t q))) (sym (differs near t q))
    ∙ ap (λ b. fin.contains (fin.difference near t) q || b) (ap (λ b. b && not (fin.contains t q)) (sym (contains_keys far q)) ∙ sym (differs (fin.from_list far) t q)) where
      spread : (a b c : Bool) → ((a || b) && c) ≡ ((a && c) || (b && c))
      spread true true true = refl
      spread true true false = refl
      spread true false true = refl
      spread true false false = refl
      spread false b c = refl

module _ (near : Numbers) (far : List ℕ) (t : Numbers) (from : ℕ) where
  none_of_both : (end : ℕ) → HasNone (fin.difference near t) from end → HasNone (fin.difference (fin.from_list {R = nat_cmp} far) t) from end
      → HasNone (fin.difference (both near far) t) from end
  none_of_both end first second q above below = split near far t q ∙ or_parts _ _ (first q above below) (second q above below)

  -- the least is far, and below the least that is near
  far_least : (end until k : ℕ) → until ≤ end → HasNone (fin.difference near t) from until → IsLeast (fin.difference (fin.from_list {R = nat_cmp} far) t) from until k
      → IsLeast (fin.difference (both near far) t) from end k
  far_least end until k within none least = record {
    low = least.low;
    high = omega (arith, least.high, within);
    has = split near far t k ∙ or_true (fin.contains (fin.difference near t) k) _ least.has;
    least = none_of_both k (λ q above below. none q above (omega (arith, below, least.high))) least.least;
  }

  -- the least of the near ones, unless one below it is far
  pub least_of_both : (end : ℕ) (near_one far_one : Option ℕ) → MatchOption near_one (HasNone (fin.difference near t) from end) (IsLeast (fin.difference near t) from end)
      → MatchOption far_one (HasNone (fin.difference (fin.from_list {R = nat_cmp} far) t) from (unwrap_or near_one end)) (IsLeast (fin.difference (fin.from_list {R = nat_cmp} far) t) from (unwrap_or near_one end))
      → MatchOption (option_or far_one near_one) (HasNone (fin.difference (both near far) t) from end) (IsLeast (fin.difference (both near far) t) from end)
  least_of_both end None None none none_far = none_of_both end none none_far
  least_of_both end (Some k) None least none_far = record {
    low = least.low;
    high = least.high;
    has = split near far t k ∙ ap (λ b. b || fin.contains (fin.difference (fin.from_list {R = nat_cmp} far) t) k) least.has;
    least = none_of_both k least.least none_far;
  }
  least_of_both end None (Some q) none least = far_least end end q (omega arith) none least
  least_of_both end (Some k) (Some q) least lower = far_least end k q (omega (arith, least.high)) least.least lower

-- where none is far
pub only_near : (near : Numbers) (far : List ℕ) → length far ≡ 0 → both near far ≡ near
only_near near [] is = same_numbers (both near []) near (λ q. contains_both near [] q ∙ either_false (fin.contains near q))
only_near near (key ∷ keys) is = absurd (omega (arith, is))

-- two clauses on the same success
pub on_both : {A B : Type 0} {P Q R : Type 0} (r : Result A B) → (P → Q → R) → OnOk r P → OnOk r Q → OnOk r R
on_both (Ok x) f p q = f p q
on_both (Err x) f p q = tt
