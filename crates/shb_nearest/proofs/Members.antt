-- Members of lists.
use Rattle.std.proofs.Common.{◌≡◌, ◌≢◌, ℕ, zero, suc, take, ◌++◌, ◌+◌, ◌-◌, ◌<◌, ◌≤◌, ◌⊎◌, inl, inr, Bool, true, false, cond, List, [], ◌∷◌, Some, length, map, filter, drop, get_or, arith, refl, sym, ap, subst, ◌∙◌, get_or-set_same, get_or-set_other}
use Rattle.std.specs.Prelude.{All, Contains, slice_get}
use Rattle.shb_nearest.proofs.Words.{All-push, cases_eq, cases_lt, contains_cases, contains_head, contains_none, contains_tail, get_or-drop, get_or-remove_above, get_or-remove_below, get_or_append_left, get_or_from_slice_get, length-append, length-drop, length-remove, length-set, remove, set, slice_get-get_or, slice_get_read, slice_get_within, take-suc}

module _ {X : Type 0} where
  pub member_at : (xs : List X) (k : ℕ) (x : X) → slice_get xs k ≡ Some x → Contains xs x
  member_at xs k x at = (k, slice_get_within xs k x at, get_or_from_slice_get xs k x x at)

  -- what is read there
  pub one_there : (xs : List X) (k : ℕ) (x y : X) → slice_get xs k ≡ Some x → y ≡ get_or xs k y → x ≡ y
  one_there xs k x y at is = let s : Some x ≡ Some y = sym at ∙ slice_get_read xs (length xs) k y refl (slice_get_within xs k x at) is in cc

  pub index_of : (xs : List X) (x : X) → Contains xs x → (k : ℕ) × (slice_get xs k ≡ Some x)
  index_of xs x h = (h.0, slice_get-get_or xs h.0 x h.1 ∙ ap (λ (y : X). Some y) h.2)

  pub member_drop : (n k : ℕ) (xs : List X) (x : X) → n ≤ k → slice_get xs k ≡ Some x → Contains (drop n xs) x
  member_drop n k xs x le at =
      let within = slice_get_within xs k x at in
      let long = length-drop n xs in
      let item = get_or-drop n xs (k - n) x in
      let same : n + (k - n) ≡ k = omega (arith, le) in
      (k - n, omega (arith, within, long, le), item ∙ (ap (λ (m : ℕ). get_or xs m x) same ∙ get_or_from_slice_get xs k x x at))

  pub member_of_drop : (n : ℕ) (xs : List X) (x : X) → Contains (drop n xs) x → (k : ℕ) × (n ≤ k) × (slice_get xs k ≡ Some x)
  member_of_drop n xs x h =
      let long = length-drop n xs in
      let low = h.1 in
      let within : n + h.0 < length xs = omega (arith, long, low) in
      (n + h.0, omega arith, slice_get-get_or xs (n + h.0) x within ∙ ap (λ (y : X). Some y) (sym (get_or-drop n xs h.0 x) ∙ h.2))

  pub member_filter : (p : X → Bool) (xs : List X) (x : X) → Contains xs x → p x ≡ true → Contains (filter p xs) x
  member_filter p [] x there passes = absurd (contains_none x there)
  member_filter p (y ∷ xs) x there passes = by (p y) refl (contains_cases y x xs there) (λ rest. member_filter p xs x rest passes)
    where
      by : (b : Bool) → p y ≡ b → (y ≡ x) ⊎ Contains xs x → (Contains xs x → Contains (filter p xs) x) → Contains (cond b (y ∷ filter p xs) (filter p xs)) x
      by true is (inl same) more = subst (λ (z : X). Contains (y ∷ filter p xs) z) same (contains_head y (filter p xs))
      by true is (inr rest) more = contains_tail y x (filter p xs) (more rest)
      by false is (inl same) more = absurd (let t = ap p same ∙ passes in (let f : ⊥ = cc in f))
      by false is (inr rest) more = more rest

  pub member_of_filter : (p : X → Bool) (xs : List X) (x : X) → Contains (filter p xs) x → Contains xs x
  member_of_filter p [] x there = there
  member_of_filter p (y ∷ xs) x there = by (p y) there (member_of_filter p xs x)
    where
      by : (b : Bool) → Contains (cond b (y ∷ filter p xs) (filter p xs)) x → (Contains (filter p xs) x → Contains xs x) → Contains (y ∷ xs) x
      by true here rest = elim (contains_cases y x (filter p xs) here) [
        | inl same ↦ subst (λ (z : X). Contains (y ∷ xs) z) same (contains_head y xs)
        | inr later ↦ contains_tail y x xs (rest later)
      ]
      by false here rest = contains_tail y x xs (rest here)

  -- one element more
  pub all_more : (P : X → Type 0) (m : ℕ) (xs : List X) (x : X) → slice_get xs m ≡ Some x → All P (take m xs) → P x → All P (take (m + 1) xs)
  all_more P m xs x at all one = subst (λ (l : List X). All P l) (sym more) (All-push P (take m xs) x all one)
    where
      more : take (m + 1) xs ≡ take m xs ++ x ∷ []
      more = (let e : m + 1 ≡ suc m = omega arith in ap (λ (k : ℕ). take k xs) e) ∙ (take-suc xs m x (slice_get_within xs m x at) ∙ ap (λ (b : X). take m xs ++ b ∷ []) (get_or_from_slice_get xs m x x at))

  -- at an index that is written
  pub member_set : (xs : List X) (i : ℕ) (y : X) → i < length xs → Contains (set xs i y) y
  member_set xs i y low = (i, (let long = length-set xs i y in omega (arith, long, low)), get_or-set_same xs i y y low)

  -- a member is at the index that is written, or stays
  pub stays_or_is : (xs : List X) (i : ℕ) (x y : X) → slice_get xs i ≡ Some x → (z : X) → Contains xs z → (z ≡ x) ⊎ Contains (set xs i y) z
  stays_or_is xs i x y at z there = elim (cases_eq there.0 i) [
    | inl same ↦ inl (sym there.2 ∙ (ap (λ (m : ℕ). get_or xs m z) same ∙ get_or_from_slice_get xs i x z at))
    | inr other ↦ inr (there.0, (let long = length-set xs i y in let low = there.1 in omega (arith, long, low)), get_or-set_other xs i there.0 y z other ∙ there.2)
  ]

  -- without the element at an index
  pub all_remove : (P : X → Type 0) (xs : List X) (i : ℕ) → i < length xs → All P xs → All P (remove xs i)
  all_remove P xs i within all k d lt =
      let long = length-remove xs i within in
      elim (cases_lt k i) [
        | inl low ↦ subst P (sym (get_or-remove_below xs i d k low within)) (all k d (omega (arith, low, within)))
        | inr high ↦ subst P (sym (get_or-remove_above xs i d k high within)) (all (k + 1) d (omega (arith, long, lt)))
      ]

  pub member_of_remove : (xs : List X) (i : ℕ) (x : X) → i < length xs → Contains (remove xs i) x → Contains xs x
  member_of_remove xs i x within there =
      let long = length-remove xs i within in
      let low = there.1 in
      elim (cases_lt there.0 i) [
        | inl lt ↦ (there.0, omega (arith, long, low), sym (get_or-remove_below xs i x there.0 lt within) ∙ there.2)
        | inr ge ↦ (there.0 + 1, omega (arith, long, low), sym (get_or-remove_above xs i x there.0 ge within) ∙ there.2)
      ]

  pub member_remove : (xs : List X) (i j : ℕ) (x : X) → i < length xs → slice_get xs j ≡ Some x → (j ≡ i → ⊥) → Contains (remove xs i) x
  member_remove xs i j x within at other =
      let long = length-remove xs i within in
      let low = slice_get_within xs j x at in
      elim (cases_lt j i) [
        | inl lt ↦ (j, omega (arith, long, lt, within), get_or-remove_below xs i x j lt within ∙ get_or_from_slice_get xs j x x at)
        | inr ge ↦ (
            let some : (j - 1) + 1 ≡ j = omega (arith, ge, other) in (
              j - 1,
              omega (arith, long, low, some),
              get_or-remove_above xs i x (j - 1) (omega (arith, ge, other)) within ∙ (ap (λ (m : ℕ). get_or xs m x) some ∙ get_or_from_slice_get xs j x x at),
            ))
      ]

-- an element at an index, after a write, or with one more
module _ {X : Type 0} where
  pub at_set : (xs : List X) (i : ℕ) (y : X) → i < length xs → slice_get (set xs i y) i ≡ Some y
  at_set xs i y lt = slice_get-get_or (set xs i y) i y (let long = length-set xs i y in omega (arith, long, lt)) ∙ ap (λ (x : X). Some x) (get_or-set_same xs i y y lt)

  pub at_other : (xs : List X) (i j : ℕ) (y z : X) → j ≢ i → slice_get xs j ≡ Some z → slice_get (set xs i y) j ≡ Some z
  at_other xs i j y z ne at = slice_get-get_or (set xs i y) j z (let long = length-set xs i y in let lt = slice_get_within xs j z at in omega (arith, long, lt)) ∙ ap (λ (x : X). Some x) (get_or-set_other xs i j y z ne ∙ get_or_from_slice_get xs j z z at)

  pub get_before : (xs ys : List X) (i : ℕ) (x : X) → slice_get xs i ≡ Some x → slice_get (xs ++ ys) i ≡ Some x
  get_before xs ys i x at =
      let low = slice_get_within xs i x at in
      let long = length-append xs ys in
      slice_get-get_or (xs ++ ys) i x (omega (arith, low, long)) ∙ ap (λ (y : X). Some y) (get_or_append_left xs ys x i low ∙ get_or_from_slice_get xs i x x at)

  pub middle : (p : List X) (a : X) (q : List X) → slice_get (p ++ a ∷ q) (length p) ≡ Some a
  middle [] a q = refl
  middle (b ∷ p) a q = middle p a q

  pub longer_cases : (xs : List X) (y : X) (j : ℕ) (z : X) → slice_get (xs ++ y ∷ []) j ≡ Some z → (slice_get xs j ≡ Some z) ⊎ ((length xs ≤ j) × (y ≡ z))
  longer_cases [] y zero z at = inr (omega arith, (let s : Some y ≡ Some z = at in cc))
  longer_cases [] y (suc j) z at = absurd (let lt = slice_get_within (y ∷ []) (suc j) z at in omega (arith, lt))
  longer_cases (x ∷ xs) y zero z at = inl at
  longer_cases (x ∷ xs) y (suc j) z at = elim (longer_cases xs y j z at) [ inl was ↦ inl was | inr is ↦ inr (let low = is.0 in omega (arith, low), is.1) ]

  pub one_at : (xs : List X) (k : ℕ) (x y : X) → slice_get xs k ≡ Some x → slice_get xs k ≡ Some y → x ≡ y
  one_at xs k x y at_x at_y = (let s : Some x ≡ Some y = sym at_x ∙ at_y in cc)

  pub some_at : (xs : List X) (k : ℕ) → k < length xs → (x : X) × (slice_get xs k ≡ Some x)
  some_at [] k lt = absurd (omega (arith, lt))
  some_at (x ∷ xs) zero lt = (x, refl)
  some_at (x ∷ xs) (suc k) lt = some_at xs k (omega (arith, lt))

  pub read_at : (xs seen : List X) (k : ℕ) (x : X) → seen ≡ xs → k < length seen → x ≡ get_or seen k x → slice_get xs k ≡ Some x
  read_at xs seen k x same lt is = subst (λ (l : List X). slice_get l k ≡ Some x) same (slice_get_read seen (length seen) k x refl lt is)

module _ {X Y : Type 0} (f : X → Y) where
  pub member_map : (xs : List X) (x : X) → Contains xs x → Contains (map f xs) (f x)
  member_map [] x there = absurd (contains_none x there)
  member_map (y ∷ xs) x there = elim (contains_cases y x xs there) [
    | inl same ↦ subst (λ (z : X). Contains (f y ∷ map f xs) (f z)) same (contains_head (f y) (map f xs))
    | inr rest ↦ contains_tail (f y) (f x) (map f xs) (member_map xs x rest)
  ]

  pub member_of_map : (xs : List X) (y : Y) → Contains (map f xs) y → (x : X) × Contains xs x × (f x ≡ y)
  member_of_map [] y there = absurd (contains_none y there)
  member_of_map (x ∷ xs) y there = elim (contains_cases (f x) y (map f xs) there) [
    | inl same ↦ (x, contains_head x xs, same)
    | inr rest ↦ (let h = member_of_map xs y rest in (h.0, contains_tail x h.0 xs h.1, h.2))
  ]
