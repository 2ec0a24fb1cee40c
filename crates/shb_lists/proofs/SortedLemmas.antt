-- Numbers that are sorted, and the parts of a list that windows have.
use Rattle.std.proofs.Common.{◌≡◌, ◌≢◌, ℕ, zero, suc, ◌+◌, ◌-◌, ◌<◌, ◌≤◌, inl, inr, Bool, true, false, cond, List, [], ◌∷◌, ◌++◌, Some, length, map, take, drop, get_or, refl, arith, ap, sym, subst, ◌∙◌}
use Rattle.std.specs.Prelude.{All, AllPairs, Contains, filter, flat_map, nat_lt, not, slice_get, slice_range, ◌==◌, ◌&&◌, ◌||◌, ◌↔◌}
use Rattle.std.specs.List.{IsDistinct}
use Rattle.std.specs.List.Sorted.{IsNonDecreasing, IsPermutation}
use Rattle.std.proofs.lemmas.Bool.{eq-eqb, le-ltb, lt-ltb}
use Rattle.std.proofs.lemmas.Cmp.{nat_eq_equiv}
use Rattle.std.proofs.lemmas.List.{drop-drop, get_or-drop, get_or-take, length-drop, take-append-drop}
use Rattle.std.proofs.lemmas.List.Elements.{filter-append}
use Rattle.std.proofs.lemmas.List.Sorted.{Contains-permutation, IsPermutation-sym}
use Rattle.std.proofs.lemmas.Map.Keys.{IsDistinct-IsPermutation, IsDistinct-from_apart, apart_from_distinct}
use Rattle.std.proofs.lemmas.Option.{slice_get-get_or}
use Rattle.shb_lines.proofs.events.Increasing.{contains_cases, contains_head, contains_none, contains_tail, same_in_order}
use Rattle.shb_stamps.proofs.Accesses.{key_no}
use Rattle.shb_counts.proofs.FilterLemmas.{all_pass, none_pass}
use Rattle.shb_counts.specs.Windows.{is_within}
use Rattle.shb_counts.specs.declared.finder.Window.{Window}

-- ---- numbers, each once

-- in another order they still differ
pub moved_differ : (xs ys : List ℕ) → AllPairs (λ (a b : ℕ). a ≢ b) xs → IsPermutation xs ys → AllPairs (λ (a b : ℕ). a ≢ b) ys
moved_differ xs ys apart moved i j d lt within same =
    let differ : IsDistinct (λ (a b : ℕ). a == b) ys = IsDistinct-IsPermutation (λ (a b : ℕ). a == b) (λ a b. nat_eq_equiv.symm a b) xs ys moved
    (IsDistinct-from_apart (λ (a b : ℕ). a == b) xs (λ p q e less inside. key_no (get_or xs p e) (get_or xs q e) (apart p q e less inside))) in
    let other : (get_or ys i d == get_or ys j d) ≡ false = apart_from_distinct (λ (a b : ℕ). a == b) ys i j d differ lt within in
    let equal = eq-eqb (get_or ys i d) (get_or ys j d) same in
    let f : ⊥ = cc in
    f

pub below_differ : (xs : List ℕ) → AllPairs (λ (a b : ℕ). a < b) xs → AllPairs (λ (a b : ℕ). a ≢ b) xs
below_differ xs up i j d lt within same = let low = up i j d lt within in omega (arith, low, same)

-- sorted, they are the rising list with the same members
pub sorted_is : (ks xs ys : List ℕ) → AllPairs (λ (a b : ℕ). a < b) ks → AllPairs (λ (a b : ℕ). a ≢ b) xs → ((v : ℕ) → Contains xs v ↔ Contains ks v) → IsPermutation xs ys → IsNonDecreasing ys → ys ≡ ks
sorted_is ks xs ys up apart members moved sorted =
    same_in_order (λ (a b : ℕ). a < b) ys ks (λ a b ca cb lt gt. omega (arith, lt, gt))
    (λ i j d lt within. let le = sorted i j d (omega (arith, lt)) within in let other = moved_differ xs ys apart moved i j d lt within in omega (arith, le, other))
    up
    (λ v. ((λ c. (members v).0 (Contains-permutation ys xs v (IsPermutation-sym xs ys moved) c)), (λ c. Contains-permutation xs ys v moved ((members v).1 c))))

-- ---- what a filter keeps

pub filter_parts : {X : Type 0} (f : X → Bool) (xs : List X) (x : X) → Contains (filter f xs) x → Contains xs x × (f x ≡ true)
filter_parts f [] x c = absurd (contains_none x c)
filter_parts {X} f (y ∷ xs) x c = by (f y) refl c (λ there. filter_parts f xs x there)
  where
    by : (b : Bool) → f y ≡ b → Contains (cond b (y ∷ filter f xs) (filter f xs)) x → (Contains (filter f xs) x → Contains xs x × (f x ≡ true)) → Contains (y ∷ xs) x × (f x ≡ true)
    by true is there rest = elim (contains_cases y x (filter f xs) there) [
      | inl same ↦ (subst (Contains (y ∷ xs)) same (contains_head y xs), subst (λ (z : X). f z ≡ true) same is)
      | inr later ↦ (let h = rest later in (contains_tail y x xs h.0, h.1))
    ]
    by false is there rest = let h = rest there in (contains_tail y x xs h.0, h.1)

pub map_filter : {X Y : Type 0} (g : X → Y) (f : Y → Bool) (xs : List X) → map g (filter (λ x. f (g x)) xs) ≡ filter f (map g xs)
map_filter g f [] = refl
map_filter {X} {Y} g f (x ∷ xs) = by (f (g x)) (map_filter g f xs)
  where
    by : (b : Bool) → map g (filter (λ x. f (g x)) xs) ≡ filter f (map g xs) → map g (cond b (x ∷ filter (λ x. f (g x)) xs) (filter (λ x. f (g x)) xs)) ≡ cond b (g x ∷ filter f (map g xs)) (filter f (map g xs))
    by true rest = ap (λ (l : List Y). g x ∷ l) rest
    by false rest = rest

-- ---- windows of a list

abbrev has : ℕ → Window → Bool
has j window = not (nat_lt j window.start) && nat_lt j window.end

has_before : (j : ℕ) (window : Window) → j < window.start → has j window ≡ false
has_before j window lt = ap (λ (b : Bool). not b && nat_lt j window.end) (lt-ltb j window.start lt)

has_after : (j : ℕ) (window : Window) → window.end ≤ j → has j window ≡ false
has_after j window le = ap (λ (b : Bool). not (nat_lt j window.start) && b) (le-ltb j window.end le) ∙ last (not (nat_lt j window.start))
  where
    last : (b : Bool) → (b && false) ≡ false
    last true = refl
    last false = refl

has_inside : (j : ℕ) (window : Window) → window.start ≤ j → j < window.end → has j window ≡ true
has_inside j window le lt = ap (λ (b : Bool). not b && nat_lt j window.end) (le-ltb j window.start le) ∙ lt-ltb j window.end lt

within_none : (windows : List Window) (j : ℕ) → All (λ (w : Window). j < w.start) windows → is_within windows j ≡ false
within_none [] j each = refl
within_none (w ∷ windows) j each = ap (λ (b : Bool). b || is_within windows j) (has_before j w (each 0 w (omega arith))) ∙ within_none windows j (λ k d lt. each (suc k) d (omega (arith, lt)))

module _ {X : Type 0} (xs : List X) where
  abbrev pub range_of : Window → List X
  range_of window = slice_range xs window.start window.end

  slice_long : (a b : ℕ) → a ≤ b → b ≤ length xs → length (slice_range xs a b) ≤ b - a
  slice_long a b le within = few (b - a) (drop a xs)
    where
      few : (n : ℕ) (l : List X) → length (take n l) ≤ n
      few zero l = omega arith
      few (suc n) [] = omega arith
      few (suc n) (y ∷ l) = let rest = few n l in omega (arith, rest)

  slice_at : (a b p : ℕ) (d : X) → p < b - a → get_or (slice_range xs a b) p d ≡ get_or xs (a + p) d
  slice_at a b p d lt = get_or-take (b - a) (drop a xs) p d lt ∙ get_or-drop a xs p d

  rest_cut : (a b : ℕ) → a ≤ b → drop a xs ≡ slice_range xs a b ++ drop b xs
  rest_cut a b le = sym (take-append-drop (b - a) (drop a xs)) ∙ ap (λ (l : List X). slice_range xs a b ++ l) (drop-drop (b - a) a xs ∙ ap (λ (n : ℕ). drop n xs) (let e : a + (b - a) ≡ b = omega (arith, le) in e))

  module _ (f : X → Bool) where
    window_rest : (a : ℕ) (windows : List Window) → a ≤ length xs → All (λ (w : Window). a ≤ w.start) windows → All (λ (w : Window). (w.start ≤ w.end) × (w.end ≤ length xs)) windows → AllPairs (λ (one next : Window). one.end ≤ next.start) windows
        → ((j : ℕ) (d : X) → a ≤ j → j < length xs → f (get_or xs j d) ≡ is_within windows j) → filter f (drop a xs) ≡ flat_map range_of windows
    window_rest a [] low past within apart passing = none_pass f (drop a xs) (λ p d lt. let long = length-drop a xs in ap f (get_or-drop a xs p d) ∙ passing (a + p) d (omega arith) (omega (arith, long, lt)))
    window_rest a (w ∷ windows) low past within apart passing =
        by (window_rest w.end windows (within 0 w (omega arith)).1 (λ k d lt. apart 0 (suc k) d (omega arith) (omega (arith, lt))) (λ k d lt. within (suc k) d (omega (arith, lt))) (λ i j d lt inside. apart (suc i) (suc j) d (omega (arith, lt)) (omega (arith, inside)))
        (λ j d le lt. let begins = past 0 w (omega arith) in let inside = (within 0 w (omega arith)).0 in passing j d (omega (arith, le, inside, begins)) lt ∙ ap (λ (b : Bool). b || is_within windows j) (has_after j w le)))
      where
        begins : a ≤ w.start
        begins = past 0 w (omega arith)

        own : (w.start ≤ w.end) × (w.end ≤ length xs)
        own = within 0 w (omega arith)

        later : All (λ (v : Window). w.end ≤ v.start) windows
        later k d lt = apart 0 (suc k) d (omega arith) (omega (arith, lt))

        front : filter f (slice_range xs a w.start) ≡ []
        front = none_pass f (slice_range xs a w.start) (λ p d lt.
            let inside = own.0 in
            let ends = own.1 in
            let long = slice_long a w.start begins (omega (arith, inside, ends)) in
            let less : a + p < w.start = omega (arith, long, lt, begins) in
            ap f (slice_at a w.start p d (omega (arith, long, lt)))
            ∙ (passing (a + p) d (omega arith) (omega (arith, less, inside, ends))
            ∙ (ap (λ (b : Bool). b || is_within windows (a + p)) (has_before (a + p) w less) ∙ within_none windows (a + p) (λ k e lt. let after = later k e lt in omega (arith, after, less, inside)))))

        here : filter f (slice_range xs w.start w.end) ≡ slice_range xs w.start w.end
        here = all_pass f (slice_range xs w.start w.end) (λ p d lt.
            let inside = own.0 in
            let ends = own.1 in
            let long = slice_long w.start w.end inside ends in
            let less : w.start + p < w.end = omega (arith, long, lt, inside) in
            ap f (slice_at w.start w.end p d (omega (arith, long, lt)))
            ∙ (passing (w.start + p) d (omega (arith, begins)) (omega (arith, less, ends))
            ∙ ap (λ (b : Bool). b || is_within windows (w.start + p)) (has_inside (w.start + p) w (omega arith) less)))

        by : filter f (drop w.end xs) ≡ flat_map range_of windows → filter f (drop a xs) ≡ range_of w ++ flat_map range_of windows
        by rest =
            ap (filter f) (rest_cut a w.start begins ∙ ap (λ (l : List X). slice_range xs a w.start ++ l) (rest_cut w.start w.end own.0))
            ∙ (filter-append f (slice_range xs a w.start) (slice_range xs w.start w.end ++ drop w.end xs)
            ∙ (ap (λ (l : List X). l ++ filter f (slice_range xs w.start w.end ++ drop w.end xs)) front
            ∙ (filter-append f (slice_range xs w.start w.end) (drop w.end xs)
            ∙ (ap (λ (l : List X). l ++ filter f (drop w.end xs)) here
            ∙ ap (λ (l : List X). slice_range xs w.start w.end ++ l) rest))))

    -- those in the windows are those that pass
    pub window_filter : (windows : List Window) → All (λ (w : Window). (w.start ≤ w.end) × (w.end ≤ length xs)) windows → AllPairs (λ (one next : Window). one.end ≤ next.start) windows
        → ((j : ℕ) (x : X) → slice_get xs j ≡ Some x → f x ≡ is_within windows j) → filter f xs ≡ flat_map range_of windows
    window_filter windows within apart passing = window_rest 0 windows (omega arith) (λ k d lt. omega arith) within apart (λ j d le lt. passing j (get_or xs j d) (slice_get-get_or xs j d lt))
