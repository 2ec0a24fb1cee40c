-- Windows of a list, one after the other: which elements are in one of them, and how many these are.
use Rattle.std.proofs.Common.{◌≡◌, ℕ, zero, suc, ◌+◌, ◌-◌, ◌<◌, ◌≤◌, ◌⊎◌, inl, inr, Bool, true, false, cond, List, [], ◌∷◌, ◌++◌, length, take, get_or, refl, arith, ap, sym, subst, ◌∙◌}
use Rattle.std.specs.Prelude.{All, count_by, nat_lt, not, ◌&&◌, ◌||◌}
use Rattle.std.proofs.lemmas.Bool.{cases_lt, le-ltb, lt-ltb}
use Rattle.std.proofs.lemmas.List.Elements.{All-push, All-get_or, All-weaker}
use Rattle.std.proofs.lemmas.List.Quantifiers.{all_pairs_push}
use Rattle.std.proofs.lemmas.List.Sums.{count_by_more_no, count_by_more_yes}
use Rattle.std.proofs.lemmas.Option.{slice_get-get_or}
use Rattle.shb_counts.specs.declared.finder.Window.{Window}
use Rattle.shb_counts.specs.declared.accesses.Entry.{Entry}
use Rattle.shb_counts.specs.Windows.{AreWindowsUpTo, IsWindow, has_index, is_within}

pub has_not : (j : ℕ) (window : Window) → (j < window.start) ⊎ (window.end ≤ j) → has_index j window ≡ false
has_not j window (inl lt) = ap (λ (b : Bool). not b && nat_lt j window.end) (lt-ltb j window.start lt)
has_not j window (inr le) = ap (λ (b : Bool). not (nat_lt j window.start) && b) (le-ltb j window.end le) ∙ last (not (nat_lt j window.start))
  where
    last : (b : Bool) → (b && false) ≡ false
    last true = refl
    last false = refl

pub has_is : (j : ℕ) (window : Window) → window.start ≤ j → j < window.end → has_index j window ≡ true
has_is j window le lt = ap (λ (b : Bool). not b && nat_lt j window.end) (le-ltb j window.start le) ∙ lt-ltb j window.end lt

-- one window more
within_push : (windows : List Window) (w : Window) (j : ℕ) → is_within (windows ++ w ∷ []) j ≡ (is_within windows j || has_index j w)
within_push [] w j = last (has_index j w)
  where
    last : (b : Bool) → (b || false) ≡ (false || b)
    last true = refl
    last false = refl
within_push (v ∷ windows) w j = by (has_index j v) (within_push windows w j)
  where
    by : (b : Bool) → is_within (windows ++ w ∷ []) j ≡ (is_within windows j || has_index j w) → (b || is_within (windows ++ w ∷ []) j) ≡ ((b || is_within windows j) || has_index j w)
    by true rest = refl
    by false rest = rest

pub within_none : (windows : List Window) (j n : ℕ) → All (λ w. (w.start ≤ w.end) × (w.end ≤ n)) windows → n ≤ j → is_within windows j ≡ false
within_none [] j n each le = refl
within_none (v ∷ windows) j n each le =
    let own = All-get_or (λ (w : Window). (w.start ≤ w.end) × (w.end ≤ n)) (v ∷ windows) 0 v (omega arith) each in
    let past = own.1 in
    ap (λ (b : Bool). b || is_within windows j) (has_not j v (inr (omega (arith, past, le)))) ∙ within_none windows j n (λ k d lt. each (suc k) d (omega (arith, lt))) le

pub all_up_to : (n m : ℕ) (windows : List Window) → n ≤ m → All (λ window. (window.start ≤ window.end) × (window.end ≤ n)) windows → All (λ window. (window.start ≤ window.end) × (window.end ≤ m)) windows
all_up_to n m windows le each = All-weaker (λ (window : Window). (window.start ≤ window.end) × (window.end ≤ n)) (λ (window : Window). (window.start ≤ window.end) × (window.end ≤ m)) (λ v h. (h.0, (let end = h.1 in omega (arith, end, le)))) windows each

module _ (f : Entry → Bool) (xs : List Entry) where
  window_more : (n m : ℕ) (windows : List Window) (w : Window) → n ≤ m → AreWindowsUpTo f xs n windows → IsWindow f xs n m w → AreWindowsUpTo f xs m (windows ++ w ∷ [])
  window_more n m windows w le so_far next = record {
    within = All-push (λ (window : Window). (window.start ≤ window.end) × (window.end ≤ m)) windows w (all_up_to n m windows le so_far.within) (next.forward, next.ends);
    apart = all_pairs_push (λ (one next : Window). one.end ≤ next.start) windows w so_far.apart
        (λ k d lt. (let own = (All-get_or (λ (window : Window). (window.start ≤ window.end) × (window.end ≤ n)) windows k d lt so_far.within).1 in let begins = next.begins in omega (arith, own, begins)));
    passing = λ j x is lt. elim (cases_lt j n) [
      | inl before ↦ so_far.passing j x is before ∙ sym (within_push windows w j ∙ (ap (λ (b : Bool). is_within windows j || b) (has_not j w (inl (let begins = next.begins in omega (arith, before, begins)))) ∙ last (is_within windows j)))
      | inr from ↦ next.passing j x is from lt ∙ sym (within_push windows w j ∙ ap (λ (b : Bool). b || has_index j w) (within_none windows j n so_far.within from))
    ];
  }
    where
      last : (b : Bool) → (b || false) ≡ b
      last true = refl
      last false = refl

  window_none : (n m : ℕ) (windows : List Window) (w : Window) → n ≤ m → w.end ≤ w.start → AreWindowsUpTo f xs n windows → IsWindow f xs n m w → AreWindowsUpTo f xs m windows
  window_none n m windows w le none so_far next = record {
    within = all_up_to n m windows le so_far.within;
    apart = so_far.apart;
    passing = λ j x is lt. elim (cases_lt j n) [
      | inl before ↦ so_far.passing j x is before
      | inr from ↦ next.passing j x is from lt ∙ (has_not j w (elim (cases_lt j w.start) [ inl low ↦ inl low | inr past ↦ inr (omega (arith, none, past)) ]) ∙ sym (within_none windows j n so_far.within from))
    ];
  }

  -- with the window of the next elements, if it isn't empty
  pub next_window : (n m : ℕ) (windows : List Window) (w : Window) → n ≤ m → AreWindowsUpTo f xs n windows → IsWindow f xs n m w → AreWindowsUpTo f xs m (cond (nat_lt w.start w.end) (windows ++ w ∷ []) windows)
  next_window n m windows w le so_far next = elim (cases_lt w.start w.end) [
    | inl some ↦ subst (λ (b : Bool). AreWindowsUpTo f xs m (cond b (windows ++ w ∷ []) windows)) (sym (lt-ltb w.start w.end some)) (window_more n m windows w le so_far next)
    | inr none ↦ subst (λ (b : Bool). AreWindowsUpTo f xs m (cond b (windows ++ w ∷ []) windows)) (sym (le-ltb w.start w.end none)) (window_none n m windows w le none so_far next)
  ]

  none_more : (d : Entry) (a k : ℕ) → a + k ≤ length xs → ((j : ℕ) → a ≤ j → j < a + k → f (get_or xs j d) ≡ false) → count_by f (take (a + k) xs) ≡ count_by f (take a xs)
  none_more d a zero le each = ap (λ (n : ℕ). count_by f (take n xs)) (let e : a + 0 ≡ a = omega arith in e)
  none_more d a (suc k) le each =
      ap (λ (n : ℕ). count_by f (take n xs)) (let e : a + suc k ≡ (a + k) + 1 = omega arith in e)
      ∙ (count_by_more_no f xs (a + k) d (omega (arith, le)) (each (a + k) (omega arith) (omega arith))
      ∙ none_more d a k (omega (arith, le)) (λ j from lt. each j from (omega (arith, lt))))

  all_more : (d : Entry) (a k : ℕ) → a + k ≤ length xs → ((j : ℕ) → a ≤ j → j < a + k → f (get_or xs j d) ≡ true) → count_by f (take (a + k) xs) ≡ count_by f (take a xs) + k
  all_more d a zero le each = ap (λ (n : ℕ). count_by f (take n xs)) (let e : a + 0 ≡ a = omega arith in e) ∙ (let e : count_by f (take a xs) ≡ count_by f (take a xs) + 0 = omega arith in e)
  all_more d a (suc k) le each =
      let here = ap (λ (n : ℕ). count_by f (take n xs)) (let e : a + suc k ≡ (a + k) + 1 = omega arith in e) in
      let more = count_by_more_yes f xs (a + k) d (omega (arith, le)) (each (a + k) (omega arith) (omega arith)) in
      let rest = all_more d a k (omega (arith, le)) (λ j from lt. each j from (omega (arith, lt))) in
      omega (arith, here, more, rest)

  pub none_between : (d : Entry) (a b : ℕ) → a ≤ b → b ≤ length xs → ((j : ℕ) → a ≤ j → j < b → f (get_or xs j d) ≡ false) → count_by f (take b xs) ≡ count_by f (take a xs)
  none_between d a b le within each =
      let e : b ≡ a + (b - a) = omega (arith, le) in
      ap (λ (n : ℕ). count_by f (take n xs)) e ∙ none_more d a (b - a) (omega (arith, e, within)) (λ j from lt. each j from (omega (arith, lt, le)))

  all_between : (d : Entry) (a b : ℕ) → a ≤ b → b ≤ length xs → ((j : ℕ) → a ≤ j → j < b → f (get_or xs j d) ≡ true) → count_by f (take b xs) ≡ count_by f (take a xs) + (b - a)
  all_between d a b le within each =
      let e : b ≡ a + (b - a) = omega (arith, le) in
      ap (λ (n : ℕ). count_by f (take n xs)) e ∙ all_more d a (b - a) (omega (arith, e, within)) (λ j from lt. each j from (omega (arith, lt, le)))

  -- as many more pass as the window has
  pub window_counted : (d : Entry) (n m : ℕ) (w : Window) → m ≤ length xs → IsWindow f xs n m w → count_by f (take m xs) ≡ count_by f (take n xs) + (w.end - w.start)
  window_counted d n m w within next =
      let begins = next.begins in
      let forward = next.forward in
      let ends = next.ends in
      let before = none_between d n w.start begins (omega (arith, forward, ends, within)) (λ j from lt. next.passing j (get_or xs j d) (slice_get-get_or xs j d (omega (arith, lt, forward, ends, within))) from (omega (arith, lt, forward, ends)) ∙ has_not j w (inl lt)) in
      let own = all_between d w.start w.end forward (omega (arith, ends, within)) (λ j from lt. next.passing j (get_or xs j d) (slice_get-get_or xs j d (omega (arith, lt, ends, within))) (omega (arith, begins, from)) (omega (arith, lt, ends)) ∙ has_is j w from lt) in
      let after = none_between d w.end m ends within (λ j from lt. next.passing j (get_or xs j d) (slice_get-get_or xs j d (omega (arith, lt, within))) (omega (arith, begins, forward, from)) lt ∙ has_not j w (inr from)) in
      omega (arith, before, own, after)
