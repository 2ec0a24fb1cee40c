-- Listed events, each once and rising, and the rows that are kept of them.
use Rattle.std.proofs.Common.{◌≡◌, ℕ, zero, suc, ◌+◌, ◌<◌, ◌≤◌, ◌⊎◌, inl, inr, true, List, [], ◌∷◌, ◌++◌, Some, length, get_or, arith, subst, ap, sym, ◌∙◌}
use Rattle.std.specs.Prelude.{All, Contains, Err}
use Rattle.std.proofs.Math.Dec.{eqb}
use Rattle.std.specs.List.Sorted.{IsStrictlyIncreasing, IsNonDecreasing, IsBinarySearchResult}
use Rattle.std.specs.Ordering.{nat_cmp}
use Rattle.shb_stamps.proofs.Words.{All-contains, AllPairs-from_increasing, AreMore, BelowPred, Contains-get_or, Event, IsRowFor, at_from_Contains, cases_lt, eqb-true, get_or_append_left, get_or_push, get_or_read, length_push, searched, thread_at}
use Rattle.std.proofs.lemmas.Cmp.{nat_eq_equiv}
use Rattle.std.proofs.lemmas.Map.Views.{Contains-from_any, list_any-from_Contains}
use Rattle.shb_stamps.specs.Listed.{HasListedRows, is_listed}
use Rattle.shb_stamps.proofs.Stamping.{row_more}

-- numbers that rise don't fall
pub rising_order : (xs : List ℕ) → IsStrictlyIncreasing xs → IsNonDecreasing xs
rising_order xs rising i j d le lt = go (cases_lt i j)
  where
    go : (i < j) ⊎ (j ≤ i) → get_or xs i d ≤ get_or xs j d
    go (inl low) = let less = AllPairs-from_increasing xs rising i j d low lt in omega (arith, less)
    go (inr ge) = let same : i ≡ j = omega (arith, le, ge) in subst (λ (k : ℕ). get_or xs i d ≤ get_or xs k d) same (omega arith)

-- numbers that rise are at least their positions
pub rising_above : (xs : List ℕ) → IsStrictlyIncreasing xs → (i : ℕ) → i < length xs → i ≤ get_or xs i 0
rising_above xs rising zero lt = omega arith
rising_above xs rising (suc i) lt =
    let before = rising_above xs rising i (omega (arith, lt)) in
    let less = AllPairs-from_increasing xs rising i (suc i) 0 (omega arith) lt in
    omega (arith, before, less)

-- a listed number is in the list
pub listed_contains : (xs : List ℕ) (x : ℕ) → is_listed xs x ≡ true → Contains xs x
listed_contains xs x listed = Contains-from_any {eq = eqb} eqb-true x xs listed

-- a number in the list is listed
pub contains_listed : (xs : List ℕ) (x : ℕ) → Contains xs x → is_listed xs x ≡ true
contains_listed xs x has = list_any-from_Contains {eq = eqb} nat_eq_equiv x xs has

-- what holds of all given numbers holds of those that were found among them
pub all_found : (P : ℕ → Type 0) (given found seen : List ℕ) → seen ≡ found → ((e : ℕ) → Contains found e → Contains given e) → All P given → All P seen
all_found P given found seen same among all k d lt = All-contains P given _ all (among _ (subst (λ (xs : List ℕ). Contains xs (get_or seen k d)) same (Contains-get_or seen k d lt)))

-- a search for a listed number doesn't miss it
pub listed_found : (xs : List ℕ) (x i : ℕ) → IsStrictlyIncreasing xs → is_listed xs x ≡ true → IsBinarySearchResult (λ y. nat_cmp y x) xs (Err i) → ⊥
listed_found xs x i rising listed position =
    let parts = searched xs x (Err i) position (λ a b le lt. rising_order xs rising a b 0 le lt) in
    let at = at_from_Contains xs x (listed_contains xs x listed) in
    let item = at.2 0 in
    elim (cases_lt at.0 i) [
      | inl low ↦ (let less = parts.1 at.0 low in omega (arith, less, item))
      | inr high ↦ (let more = parts.2 at.0 high at.1 in omega (arith, more, item))
    ]

-- a row with the same entries as one of other rows
pub row_copied : (trace : List Event) (rows kept : List (List ℕ)) (t row number : ℕ) (P : ℕ → Type 0) → number < length kept → ((u : ℕ) → get_or (get_or kept number []) u 0 ≡ get_or (get_or rows row []) u 0) → IsRowFor trace rows t P row → IsRowFor trace kept t P number
row_copied trace rows kept t row number P low alike is = record {
  in_range = low;
  front = record {
    within = λ u ne. (let le = is.front.within u ne in let same = alike u in omega (arith, le, same));
    exact = λ u k of_k ne. (let known = is.front.exact u k of_k ne in let same = alike u in ((λ le. known.0 (omega (arith, le, same))), (λ p. let le = known.1 p in omega (arith, le, same))));
  };
}

module _ (trace : List Event) (events : List ℕ) where
  pub listed_more : (rows more : List (List ℕ)) (n : ℕ) (before : List ℕ) → AreMore rows more → HasListedRows trace rows events n before → HasListedRows trace more events n before
  listed_more rows more n before grown h = record { as_many = h.as_many; each = λ i e t lt at of_e. row_more trace rows more t _ _ grown (h.each i e t lt at of_e) }

  -- one more listed event
  pub listed_push : (rows : List (List ℕ)) (n r : ℕ) (before pushed : List ℕ) → ((e t : ℕ) → get_or events n 0 ≡ e → thread_at trace e ≡ Some t → IsRowFor trace rows t (λ k. BelowPred trace k e) r) → pushed ≡ before ++ r ∷ [] → HasListedRows trace rows events n before → HasListedRows trace rows events (n + 1) pushed
  listed_push rows n r before pushed own is h = record {
    as_many = ap length is ∙ (length_push before r ∙ ap (λ (m : ℕ). m + 1) h.as_many);
    each = λ i e t lt at of_e. elim (cases_lt i n) [
      | inl less ↦ subst (IsRowFor trace rows t (λ k. BelowPred trace k e)) (sym (ap (λ (xs : List ℕ). get_or xs i 0) is ∙ get_or_append_left before (r ∷ []) 0 i (let many = h.as_many in omega (arith, less, many)))) (h.each i e t less at of_e)
      | inr past ↦
          let same : i ≡ n = omega (arith, lt, past) in
          let item = ap (λ (xs : List ℕ). get_or xs i 0) is ∙ get_or_push before r 0 i (let many = h.as_many in omega (arith, many, same)) in
          subst (IsRowFor trace rows t (λ k. BelowPred trace k e)) (sym item) (own e t (subst (λ (m : ℕ). get_or events m 0 ≡ e) same at) of_e)
    ];
  }

  -- the row of a listed event, as the code reads it
  pub listed_read : (rows : List (List ℕ)) (at e t item : ℕ) (before : List ℕ) → at < length events → get_or events at 0 ≡ e → thread_at trace e ≡ Some t → HasListedRows trace rows events (length events) before → item ≡ get_or before at item → IsRowFor trace rows t (λ k. BelowPred trace k e) item
  listed_read rows at e t item before lt here of_e has is = subst (IsRowFor trace rows t (λ k. BelowPred trace k e)) (sym (get_or_read before at item (let many = has.as_many in omega (arith, many, lt)) is 0)) (has.each at e t lt here of_e)
