-- Windows that are added up: what is marked, what is counted, and what it all says of the races.
use Rattle.std.proofs.Common.{◌≡◌, ℕ, zero, suc, ◌+◌, ◌<◌, ◌≤◌, ◌⊎◌, min, inl, inr, Bool, true, false, cond, not, ◌&&◌, ◌||◌, ◌==◌, ltb, List, [], ◌∷◌, ◌++◌, All, get_or, length, set, take, sum, refl, arith, ap, sym, subst, ◌∙◌}
use Rattle.std.proofs.lemmas.Bool.{and_parts, cases_Bool, cases_eq, cases_lt, eq-eqb, false≢true, le-ltb, lt-ltb, ltb-true, ne_eqb, or_cases, or_left, or_right, true≢false}
use Rattle.std.proofs.lemmas.List.{get_or-set_other, get_or-set_same, get_or_append_left, length-append, length-set}
use Rattle.std.proofs.lemmas.List.Elements.{All-contains, All-head, All-tail, Contains-push}
use Rattle.std.proofs.lemmas.List.Folds.{list_any-append}
use Rattle.std.proofs.lemmas.List.Sums.{sum_by-cons}
use Rattle.shb_counts.specs.Covers.{AreMarked, AreRuns, HasMore, HasWindow, HasWindows, IsStep}
use Rattle.shb_counts.specs.Windows.{is_within}
use Rattle.shb_counts.specs.declared.cover.Cover.{Cover}
use Rattle.shb_counts.specs.declared.finder.Window.{Window}

-- ---- marks

pub marked_none : (end later : ℕ) (first : List ℕ) → AreMarked end end later first first
marked_none end later first = record {
  as_many = refl;
  kept = λ j known. refl;
  outside = λ j out. refl;
  marked = λ j low high unset. absurd (omega (arith, low, high));
}

-- the part of a window that is marked so far, and a step more
module _ (start end later at to : ℕ) (were mid new : List ℕ) (h : AreMarked at end later were mid) (low : at ≤ end) (step : IsStep at later to mid new) where
  pub marked_more : AreMarked to end later were new
  marked_more = record {
    as_many = step.marked.as_many ∙ h.as_many;
    kept = λ j known. (let same = h.kept j known in step.marked.kept j (omega (arith, same, known)) ∙ same);
    outside = λ j out. outside j out;
    marked = λ j from high unset. elim (cases_lt j at) [
      | inl lt ↦ step.marked.marked j from lt (h.outside j (inl lt) ∙ unset)
      | inr ge ↦ step.marked.outside j (inr ge) ∙ h.marked j ge high unset
    ];
  }
    where
      back : to < at
      back = step.back

      outside : (j : ℕ) → (j < to) ⊎ (end ≤ j) → get_or new j 0 ≡ get_or were j 0
      outside j (inl lt) = step.marked.outside j (inl lt) ∙ h.outside j (inl (omega (arith, lt, back)))
      outside j (inr ge) = step.marked.outside j (inr (omega (arith, ge, low))) ∙ h.outside j (inr ge)

  pub filled_more : ((j : ℕ) → at ≤ j → j < end → 0 < get_or mid j 0) → (j : ℕ) → to ≤ j → j < end → 0 < get_or new j 0
  filled_more filled j from high = elim (cases_lt j at) [
    | inl lt ↦ step.filled j from lt
    | inr ge ↦ (let known = filled j ge high in let same = step.marked.kept j known in omega (arith, known, same))
  ]

  pub below_more : start < at → ((j : ℕ) → j < start → get_or mid j 0 ≡ get_or were j 0) → (j : ℕ) → j < start → get_or new j 0 ≡ get_or were j 0
  below_more after below j lt = step.one j (omega (arith, lt, after)) ∙ below j lt

pub runs_more : (start end later : ℕ) (were new runs : List ℕ) → AreMarked start end later were new → AreRuns were runs → AreRuns new runs
runs_more start end later were new runs marked h = record {
  as_many = (let first = marked.as_many in let size = h.as_many in omega (arith, first, size));
  within = h.within;
  covered = λ k j lt reach. (let known = h.covered k j lt reach in let same = marked.kept j known in omega (arith, known, same));
}

-- the whole window is marked where the part reaches its start
pub marked_all : (start end later at : ℕ) (were new : List ℕ) → AreMarked at end later were new → at ≤ start → ((j : ℕ) → j < start → get_or new j 0 ≡ get_or were j 0) → AreMarked start end later were new
marked_all start end later at were new h low below = record {
  as_many = h.as_many;
  kept = h.kept;
  outside = λ j out. outside j out;
  marked = λ j from high unset. h.marked j (omega (arith, from, low)) high unset;
}
  where
    outside : (j : ℕ) → (j < start) ⊎ (end ≤ j) → get_or new j 0 ≡ get_or were j 0
    outside j (inl lt) = below j lt
    outside j (inr ge) = h.outside j (inr ge)

-- ---- counts of starts and ends

pub none_more : (at : ℕ) (counts : List ℕ) → HasMore at 0 counts counts
none_more at counts = record { as_many = refl; here = omega arith; others = λ k ne. refl }

pub one_more : (at : ℕ) (counts : List ℕ) (value : ℕ) → at < length counts → value ≡ get_or counts at 0 + 1 → HasMore at 1 counts (set counts at value)
one_more at counts value lt is = record {
  as_many = length-set counts at value;
  here = get_or-set_same counts at value 0 lt ∙ is;
  others = λ k ne. get_or-set_other counts at k value 0 ne;
}

pub sum_take_next : (xs : List ℕ) (n : ℕ) → sum (take (suc n) xs) ≡ sum (take n xs) + get_or xs n 0
sum_take_next [] zero = omega arith
sum_take_next [] (suc n) = omega arith
sum_take_next (x ∷ xs) zero = let cons = sum_by-cons (λ (m : ℕ). m) x [] in omega (arith, cons)
sum_take_next (x ∷ xs) (suc n) =
    let rest = sum_take_next xs n in
    let first = sum_by-cons (λ (m : ℕ). m) x (take (suc n) xs) in
    let second = sum_by-cons (λ (m : ℕ). m) x (take n xs) in
    omega (arith, rest, first, second)

pub sum_take_more : (xs : List ℕ) (n : ℕ) → sum (take (n + 1) xs) ≡ sum (take n xs) + get_or xs n 0
sum_take_more xs n = ap (λ (m : ℕ). sum (take m xs)) (let e : n + 1 ≡ suc n = omega arith in e) ∙ sum_take_next xs n

-- a sum of the first n has one more where the index is among these
module _ (at more : ℕ) (old new : List ℕ) (h : HasMore at more old new) where
  pub more_before : (n : ℕ) → n ≤ at → sum (take n new) ≡ sum (take n old)
  more_before zero le = refl
  more_before (suc n) le =
      let rest = more_before n (omega (arith, le)) in
      let first = sum_take_next new n in
      let second = sum_take_next old n in
      let same = h.others n (λ e. omega (arith, e, le)) in
      omega (arith, rest, first, second, same)

  pub more_after : (n : ℕ) → at < n → sum (take n new) ≡ sum (take n old) + more
  more_after zero lt = absurd (omega (arith, lt))
  more_after (suc n) lt =
      let first = sum_take_next new n in
      let second = sum_take_next old n in
      elim (cases_eq n at) [
        | inl same ↦ (let rest = more_before n (omega (arith, same)) in
            let value = ap (λ (m : ℕ). get_or new m 0) same ∙ (h.here ∙ ap (λ (m : ℕ). get_or old m 0 + more) (sym same)) in
            omega (arith, rest, first, second, value))
        | inr ne ↦ (let rest = more_after n (omega (arith, ne, lt)) in
            let same = h.others n ne in
            omega (arith, rest, first, second, same))
      ]

-- ---- one window

abbrev pub in_window : Window → ℕ → Bool
in_window window j = not (ltb j window.start) && ltb j window.end

counts_one : (start end : ℕ) → start < end → cond {A = ℕ} (ltb start end) 1 0 ≡ 1
counts_one start end lt = ap (λ (b : Bool). cond {A = ℕ} b 1 0) (lt-ltb start end lt)

counts_none : (start end : ℕ) → end ≤ start → cond {A = ℕ} (ltb start end) 1 0 ≡ 0
counts_none start end le = ap (λ (b : Bool). cond {A = ℕ} b 1 0) (le-ltb start end le)

below_no : (window : Window) (j : ℕ) → j < window.start → in_window window j ≡ false
below_no window j lt = ap (λ (b : Bool). not b && ltb j window.end) (lt-ltb j window.start lt)

past_no : (window : Window) (j : ℕ) → window.start ≤ j → window.end ≤ j → in_window window j ≡ false
past_no window j le ge = ap (λ (b : Bool). not b && ltb j window.end) (le-ltb j window.start le) ∙ le-ltb j window.end ge

pub within_yes : (window : Window) (j : ℕ) → window.start ≤ j → j < window.end → in_window window j ≡ true
within_yes window j le lt = ap (λ (b : Bool). not b && ltb j window.end) (le-ltb j window.start le) ∙ lt-ltb j window.end lt

window_cases : (window : Window) (j : ℕ) → window.start ≤ window.end → ((window.start ≤ j) × (j < window.end) × (in_window window j ≡ true)) ⊎ (((j < window.start) ⊎ (window.end ≤ j)) × (in_window window j ≡ false))
window_cases window j forward = elim (cases_lt j window.start) [
  | inl lt ↦ inr (inl lt, below_no window j lt)
  | inr le ↦ elim (cases_lt j window.end) [
    | inl lt ↦ inl (le, lt, within_yes window j le lt)
    | inr ge ↦ inr (inr ge, past_no window j le ge)
  ]
]

-- how the running sums of starts and ends differ after a window is added
window_sums : (window : Window) (later : ℕ) (mid new : Cover) (j : ℕ) → window.start ≤ window.end → HasWindow window later mid new
    → sum (take (j + 1) new.starts.items) + sum (take (j + 1) mid.ends.items) ≡ sum (take (j + 1) mid.starts.items) + sum (take (j + 1) new.ends.items) + cond (in_window window j) 1 0
window_sums window later mid new j forward h =
    let by = cond {A = ℕ} (ltb window.start window.end) 1 0 in
    elim (cases_lt j window.start) [
      | inl lt ↦ (
          let first = more_before window.start by mid.starts.items new.starts.items h.starts (j + 1) (omega (arith, lt)) in
          let second = more_before window.end by mid.ends.items new.ends.items h.ends (j + 1) (omega (arith, lt, forward)) in
          let out = ap (λ (b : Bool). cond {A = ℕ} b 1 0) (below_no window j lt) in
          omega (arith, first, second, out))
      | inr le ↦ (
          let first = more_after window.start by mid.starts.items new.starts.items h.starts (j + 1) (omega (arith, le)) in
          elim (cases_lt j window.end) [
            | inl lt ↦ (
                let second = more_before window.end by mid.ends.items new.ends.items h.ends (j + 1) (omega (arith, lt)) in
                let here = ap (λ (b : Bool). cond {A = ℕ} b 1 0) (within_yes window j le lt) in
                let one = counts_one window.start window.end (omega (arith, le, lt)) in
                omega (arith, first, second, here, one))
            | inr ge ↦ (
                let second = more_after window.end by mid.ends.items new.ends.items h.ends (j + 1) (omega (arith, ge)) in
                let out = ap (λ (b : Bool). cond {A = ℕ} b 1 0) (past_no window j le ge) in
                omega (arith, first, second, out))
          ])
    ]

-- ---- several windows

pub all_front : {X : Type 0} (P : X → Type 0) (xs ys : List X) → All P (xs ++ ys) → All P xs
all_front P xs ys h k d lt = let long = length-append xs ys in subst P (get_or_append_left xs ys d k lt) (h k d (omega (arith, lt, long)))

or_false : (b : Bool) → (b || false) ≡ b
or_false true = refl
or_false false = refl

within_push : (windows : List Window) (window : Window) (j : ℕ) → is_within (windows ++ window ∷ []) j ≡ (is_within windows j || in_window window j)
within_push windows window j = list_any-append (λ (w : Window). in_window w j) windows (window ∷ []) ∙ ap (λ (b : Bool). is_within windows j || b) (or_false (in_window window j))

-- what is in a window is below a number that none of the windows reaches past
within_below : (windows : List Window) (j bound : ℕ) → All (λ w. w.end ≤ bound) windows → is_within windows j ≡ true → j < bound
within_below [] j bound ends h = absurd (false≢true h)
within_below (window ∷ windows) j bound ends h = elim (or_cases (in_window window j) (is_within windows j) h) [
  | inl here ↦ (
      let low = ltb-true j window.end (and_parts (not (ltb j window.start)) (ltb j window.end) here).1 in
      let end = All-head (λ (w : Window). w.end ≤ bound) window windows ends in
      omega (arith, low, end))
  | inr there ↦ within_below windows j bound (All-tail (λ (w : Window). w.end ≤ bound) window windows ends) there
]

-- what is in one of the windows is in all of them
pub within_one : (windows : List Window) (k j : ℕ) (d : Window) → k < length windows → in_window (get_or windows k d) j ≡ true → is_within windows j ≡ true
within_one [] k j d lt h = absurd (omega (arith, lt))
within_one (window ∷ windows) zero j d lt h = or_left (in_window window j) (is_within windows j) h
within_one (window ∷ windows) (suc k) j d lt h = or_right (in_window window j) (is_within windows j) (within_one windows k j d (omega (arith, lt)) h)

first_push : (b c : Bool) (x y z later : ℕ) → y ≡ cond (b && (x == 0)) later x → (c ≡ true → 0 < y → z ≡ y) → (c ≡ true → y ≡ 0 → z ≡ later) → (c ≡ false → z ≡ y) → z ≡ cond ((b || c) && (x == 0)) later x
first_push true c x y z later is kept marked out = elim (cases_Bool c) [
  | inl yes_here ↦ elim (cases_eq y 0) [
    | inl unset ↦ elim (cases_eq x 0) [
      | inl zero_x ↦ (let test = eq-eqb x 0 zero_x in marked yes_here unset ∙ sym (ap (λ (t : Bool). cond t later x) test))
      | inr ne ↦ (let test = ne_eqb x 0 ne in let same : y ≡ x = is ∙ ap (λ (t : Bool). cond t later x) test in absurd (ne (sym same ∙ unset)))
    ]
    | inr ne ↦ kept yes_here (omega (arith, ne)) ∙ is
  ]
  | inr not_here ↦ out not_here ∙ is
]
first_push false true x y z later is kept marked out = elim (cases_eq x 0) [
  | inl zero_x ↦ marked refl (is ∙ zero_x) ∙ sym (ap (λ (t : Bool). cond t later x) (eq-eqb x 0 zero_x))
  | inr ne ↦ kept refl (omega (arith, is, ne)) ∙ (is ∙ sym (ap (λ (t : Bool). cond t later x) (ne_eqb x 0 ne)))
]
first_push false false x y z later is kept marked out = out refl ∙ is

apart_sum : (b c : Bool) → (b ≡ true → c ≡ false) → cond {A = ℕ} (b || c) 1 0 ≡ cond {A = ℕ} b 1 0 + cond {A = ℕ} c 1 0
apart_sum true true apart = absurd (true≢false (apart refl))
apart_sum true false apart = refl
apart_sum false true apart = refl
apart_sum false false apart = refl

module _ (windows : List Window) (window : Window) (later : ℕ) (old mid new : Cover) (h : HasWindows windows later old mid) (w : HasWindow window later mid new) (forward : window.start ≤ window.end) (positive : window.start < window.end → 0 < later) (before : All (λ v. v.end ≤ window.start) windows) where
  by : ℕ
  by = cond (ltb window.start window.end) 1 0

  pub windows_more : HasWindows (windows ++ window ∷ []) later old new
  windows_more = record { first = first; covering = covering; starts = starts; ends = ends; starts_left = starts_left; ends_left = ends_left }
    where
      first : (j : ℕ) → get_or new.first.items j 0 ≡ cond (is_within (windows ++ window ∷ []) j && (get_or old.first.items j 0 == 0)) later (get_or old.first.items j 0)
      first j =
          first_push (is_within windows j) (in_window window j) (get_or old.first.items j 0) (get_or mid.first.items j 0) (get_or new.first.items j 0) later (h.first j)
          (λ here set. w.first.kept j set)
          (λ here unset. elim (window_cases window j forward) [ inl within ↦ w.first.marked j within.0 within.1 unset | inr out ↦ absurd (true≢false (sym here ∙ out.1)) ])
          (λ none_here. elim (window_cases window j forward) [ inl within ↦ absurd (true≢false (sym within.2 ∙ none_here)) | inr out ↦ w.first.outside j out.0 ])
          ∙ ap (λ (b : Bool). cond (b && (get_or old.first.items j 0 == 0)) later (get_or old.first.items j 0)) (sym (within_push windows window j))

      covering : (j : ℕ) → j < length old.first.items → sum (take (j + 1) new.starts.items) + sum (take (j + 1) old.ends.items) ≡ sum (take (j + 1) old.starts.items) + sum (take (j + 1) new.ends.items) + cond (is_within (windows ++ window ∷ []) j) 1 0
      covering j lt =
          let were = h.covering j lt in
          let more = window_sums window later mid new j forward w in
          let parts = ap (λ (b : Bool). cond {A = ℕ} b 1 0) (within_push windows window j) ∙ apart_sum (is_within windows j) (in_window window j) (λ there. below_no window j (within_below windows j window.start before there)) in
          omega (arith, were, more, parts)

      one_or_none : (cond {A = ℕ} (ltb window.start window.end) 1 0 ≡ 0) ⊎ ((window.start < window.end) × (cond {A = ℕ} (ltb window.start window.end) 1 0 ≡ 1) × (0 < later))
      one_or_none = elim (cases_lt window.start window.end) [ inl lt ↦ inr (lt, counts_one window.start window.end lt, positive lt) | inr le ↦ inl (counts_none window.start window.end le) ]

      starts : (k : ℕ) → get_or new.starts.items k 0 ≤ get_or old.starts.items k 0 + min later 1
      starts k =
          let few = h.starts k in
          elim (cases_eq k window.start) [
            | inl same ↦ (
                let value = ap (λ (n : ℕ). get_or new.starts.items n 0) same ∙ w.starts.here in
                let was = ap (λ (n : ℕ). get_or mid.starts.items n 0) same in
                elim one_or_none [
                  | inl zero_by ↦ omega (arith, few, value, was, zero_by)
                  | inr one ↦ (let left = h.starts_left window.start before in let old_is = ap (λ (n : ℕ). get_or old.starts.items n 0) same in omega (arith, value, one.1, one.2, left, old_is))
                ])
            | inr ne ↦ (let same = w.starts.others k ne in omega (arith, few, same))
          ]

      ends : (k : ℕ) → get_or new.ends.items k 0 ≤ get_or old.ends.items k 0 + min later 1
      ends k =
          let few = h.ends k in
          elim (cases_eq k window.end) [
            | inl same ↦ (
                let value = ap (λ (n : ℕ). get_or new.ends.items n 0) same ∙ w.ends.here in
                let was = ap (λ (n : ℕ). get_or mid.ends.items n 0) same in
                elim one_or_none [
                  | inl zero_by ↦ omega (arith, few, value, was, zero_by)
                  | inr one ↦ (
                      let left = h.ends_left window.end (λ i d lt. let end = before i d lt in omega (arith, end, one.0)) in
                      let old_is = ap (λ (n : ℕ). get_or old.ends.items n 0) same in
                      omega (arith, value, one.1, one.2, left, old_is))
                ])
            | inr ne ↦ (let same = w.ends.others k ne in omega (arith, few, same))
          ]

      starts_left : (k : ℕ) → All (λ v. v.end ≤ k) (windows ++ window ∷ []) → get_or new.starts.items k 0 ≡ get_or old.starts.items k 0
      starts_left k all =
          let left = h.starts_left k (all_front (λ (v : Window). v.end ≤ k) windows (window ∷ []) all) in
          let end = All-contains (λ (v : Window). v.end ≤ k) (windows ++ window ∷ []) window all (Contains-push windows window) in
          elim (cases_eq k window.start) [
            | inl same ↦ (
                let value = ap (λ (n : ℕ). get_or new.starts.items n 0) same ∙ w.starts.here in
                let was = ap (λ (n : ℕ). get_or mid.starts.items n 0) same in
                let zero_by = counts_none window.start window.end (omega (arith, end, same)) in
                omega (arith, left, value, was, zero_by))
            | inr ne ↦ w.starts.others k ne ∙ left
          ]

      ends_left : (k : ℕ) → All (λ v. v.end < k) (windows ++ window ∷ []) → get_or new.ends.items k 0 ≡ get_or old.ends.items k 0
      ends_left k all =
          let left = h.ends_left k (all_front (λ (v : Window). v.end < k) windows (window ∷ []) all) in
          let end = All-contains (λ (v : Window). v.end < k) (windows ++ window ∷ []) window all (Contains-push windows window) in
          w.ends.others k (λ same. omega (arith, end, same)) ∙ left
