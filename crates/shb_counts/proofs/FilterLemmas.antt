-- What a filter over a list in order keeps: from a position on, the tails of lists that it is cut into, and how many.
use Rattle.std.proofs.Common.{◌≡◌, ℕ, zero, suc, ◌+◌, ◌-◌, ◌<◌, ◌≤◌, ◌⊎◌, Bool, true, false, cond, List, [], ◌∷◌, ◌++◌, inl, inr, length, take, drop, get_or, refl, arith, ap, sym, ◌∙◌, append-nil, true≢false}
use Rattle.std.specs.Prelude.{Contains, count_by, filter, ◌==◌}
use Rattle.std.specs.List.{sum_by}
use Rattle.std.proofs.lemmas.Bool.{cases_Bool, cases_lt}
use Rattle.std.proofs.lemmas.List.{get_or_append_left, get_or_push, length_push, take-append-le, take_at}
use Rattle.std.proofs.lemmas.List.Elements.{filter-append}
use Rattle.std.proofs.lemmas.List.Sums.{length-filter, sum_by-cons}
use Rattle.shb_lines.proofs.events.Increasing.{contains_head, contains_tail}
use Rattle.shb_lines.specs.events.Reach.{numbers_where}
use Rattle.shb_counts.proofs.SwapLemmas.{sum_same, sum_swapped, sum_zero}

-- what passes one test among the numbers that pass another, which it needs
pub filter_numbers : (f g : ℕ → Bool) (n : ℕ) → ((i : ℕ) → i < n → f i ≡ true → g i ≡ true) → filter f (numbers_where g n) ≡ numbers_where f n
unfolding numbers_where
filter_numbers f g zero needs = refl
filter_numbers f g (suc n) needs =
    filter-append f (numbers_where g n) (cond (g n) (n ∷ []) [])
    ∙ (ap (λ (l : List ℕ). l ++ filter f (cond (g n) (n ∷ []) [])) (filter_numbers f g n (λ i lt h. needs i (omega (arith, lt)) h))
    ∙ ap (λ (l : List ℕ). numbers_where f n ++ l) (last (cases_Bool (g n)) (cases_Bool (f n))))
  where
    last : (g n ≡ true) ⊎ (g n ≡ false) → (f n ≡ true) ⊎ (f n ≡ false) → filter f (cond (g n) (n ∷ []) []) ≡ cond (f n) (n ∷ []) []
    last (inl taken) h = ap (λ (b : Bool). filter f (cond b (n ∷ []) [])) taken
    last (inr left) (inl passes) = absurd (true≢false (sym (needs n (omega arith) passes) ∙ left))
    last (inr left) (inr fails) = ap (λ (b : Bool). filter f (cond b (n ∷ []) [])) left ∙ sym (ap (λ (b : Bool). cond b (n ∷ []) []) fails)

-- the numbers before the one at k are the first k
pub front_numbers : (g : ℕ → Bool) (n k : ℕ) → k < length (numbers_where g n) → take k (numbers_where g n) ≡ numbers_where g (get_or (numbers_where g n) k 0)
unfolding numbers_where
front_numbers g zero k lt = absurd (omega arith)
front_numbers g (suc n) k lt = go (cases_Bool (g n)) (cases_lt k (length (numbers_where g n))) (λ h. front_numbers g n k h) lt
  where
    go : (g n ≡ true) ⊎ (g n ≡ false) → (k < length (numbers_where g n)) ⊎ (length (numbers_where g n) ≤ k) → (k < length (numbers_where g n) → take k (numbers_where g n) ≡ numbers_where g (get_or (numbers_where g n) k 0)) → k < length (numbers_where g n ++ cond (g n) (n ∷ []) [])
        → take k (numbers_where g n ++ cond (g n) (n ∷ []) []) ≡ numbers_where g (get_or (numbers_where g n ++ cond (g n) (n ∷ []) []) k 0)
    go e (inl below) ih within =
        let here : get_or (numbers_where g n ++ cond (g n) (n ∷ []) []) k 0 ≡ get_or (numbers_where g n) k 0 = get_or_append_left (numbers_where g n) (cond (g n) (n ∷ []) []) 0 k below in
        take-append-le k (numbers_where g n) (cond (g n) (n ∷ []) []) (omega arith) ∙ (ih below ∙ ap (λ (m : ℕ). numbers_where g m) (sym here))
    go (inl e) (inr past) ih within =
        let size : length (numbers_where g n ++ cond (g n) (n ∷ []) []) ≡ length (numbers_where g n) + 1 = rw e (length_push (numbers_where g n) n) in
        let at : length (numbers_where g n) ≡ k = omega (arith, size) in
        let here : get_or (numbers_where g n ++ cond (g n) (n ∷ []) []) k 0 ≡ n = rw e (get_or_push (numbers_where g n) n 0 k at) in
        take_at (numbers_where g n) (cond (g n) (n ∷ []) []) k at ∙ ap (λ (m : ℕ). numbers_where g m) (sym here)
    go (inr e) (inr past) ih within = absurd (let size : length (numbers_where g n ++ cond (g n) (n ∷ []) []) ≡ length (numbers_where g n) = rw (e, append-nil) refl in omega (arith, size))

-- those before the one at k that pass
pub filter_front : (f g : ℕ → Bool) (n k : ℕ) → k < length (numbers_where g n) → ((i : ℕ) → i < get_or (numbers_where g n) k 0 → f i ≡ true → g i ≡ true) → filter f (take k (numbers_where g n)) ≡ numbers_where f (get_or (numbers_where g n) k 0)
filter_front f g n k lt needs = ap (λ (l : List ℕ). filter f l) (front_numbers g n k lt) ∙ filter_numbers f g (get_or (numbers_where g n) k 0) needs

module _ {X : Type 0} (f : X → Bool) where
  pub none_pass : (xs : List X) → ((p : ℕ) (d : X) → p < length xs → f (get_or xs p d) ≡ false) → filter f xs ≡ []
  none_pass [] fails = refl
  none_pass (x ∷ xs) fails = ap (λ (b : Bool). cond b (x ∷ filter f xs) (filter f xs)) (fails 0 x (omega arith)) ∙ none_pass xs (λ p d lt. fails (suc p) d (omega arith))

  pub all_pass : (xs : List X) → ((p : ℕ) (d : X) → p < length xs → f (get_or xs p d) ≡ true) → filter f xs ≡ xs
  all_pass [] passes = refl
  all_pass (x ∷ xs) passes = ap (λ (b : Bool). cond b (x ∷ filter f xs) (filter f xs)) (passes 0 x (omega arith)) ∙ ap (λ (l : List X). x ∷ l) (all_pass xs (λ p d lt. passes (suc p) d (omega arith)))

  take_none : (q : ℕ) → take {A = X} q [] ≡ []
  take_none zero = refl
  take_none (suc q) = refl

  -- those that pass are a tail
  pub tail_kept : (xs : List X) (start : ℕ) → ((p : ℕ) (d : X) → p < start → p < length xs → f (get_or xs p d) ≡ false) → ((p : ℕ) (d : X) → start ≤ p → p < length xs → f (get_or xs p d) ≡ true) → filter f xs ≡ drop start xs
  tail_kept xs zero before after = all_pass xs (λ p d lt. after p d (omega arith) lt)
  tail_kept [] (suc start) before after = refl
  tail_kept (x ∷ xs) (suc start) before after =
      ap (λ (b : Bool). cond b (x ∷ filter f xs) (filter f xs)) (before 0 x (omega arith) (omega arith))
      ∙ tail_kept xs start (λ p d lt within. before (suc p) d (omega arith) (omega arith)) (λ p d le within. after (suc p) d (omega arith) (omega arith))

  -- what comes after one that passes passes too
  abbrev pub Rises : List X → Type 0
  Rises xs = (p q : ℕ) (d : X) → p ≤ q → q < length xs → f (get_or xs p d) ≡ true → f (get_or xs q d) ≡ true

  -- so a search by halves finds where the tail begins: what it ends at passes, and what stands before that doesn't
  pub tail_found : (xs : List X) (start : ℕ) → Rises xs → ((d : X) → start < length xs → f (get_or xs start d) ≡ true) → ((d : X) → 0 < start → start ≤ length xs → f (get_or xs (start - 1) d) ≡ false) → start ≤ length xs → filter f xs ≡ drop start xs
  tail_found xs start rises passes fails le = tail_kept xs start
      (λ p d lt within. elim (cases_Bool (f (get_or xs p d))) [
        | inr h ↦ h
        | inl h ↦ absurd (true≢false (sym (rises p (start - 1) d (omega (arith, lt)) (omega (arith, lt, le)) h) ∙ fails d (omega (arith, lt)) le))
      ])
      (λ p d past within. rises start p d past within (passes d (omega (arith, past, within))))

  sum_filter : (v : X → ℕ) (p : X → Bool) (xs : List X) → sum_by v (filter p xs) ≡ sum_by (λ x. cond (p x) (v x) 0) xs
  sum_filter v p [] = refl
  sum_filter v p (x ∷ xs) = by (p x) (sum_filter v p xs) (sum_by-cons (λ y. cond (p y) (v y) 0) x xs)
    where
      by : (b : Bool) → sum_by v (filter p xs) ≡ sum_by (λ y. cond (p y) (v y) 0) xs → sum_by (λ y. cond (p y) (v y) 0) (x ∷ xs) ≡ cond b (v x) 0 + sum_by (λ y. cond (p y) (v y) 0) xs
          → sum_by v (cond b (x ∷ filter p xs) (filter p xs)) ≡ sum_by (λ y. cond (p y) (v y) 0) (x ∷ xs)
      by true rest more = let here = sum_by-cons v x (filter p xs) in omega (arith, rest, more, here)
      by false rest more = omega (arith, rest, more)

  -- what the test needs may be looked at first
  pub filter_needs : (p : X → Bool) (xs : List X) → ((x : X) → Contains xs x → f x ≡ true → p x ≡ true) → filter f (filter p xs) ≡ filter f xs
  filter_needs p [] needs = refl
  filter_needs p (x ∷ xs) needs = by (p x) refl (f x) refl (filter_needs p xs (λ y c. needs y (contains_tail x y xs c)))
    where
      by : (b : Bool) → p x ≡ b → (q : Bool) → f x ≡ q → filter f (filter p xs) ≡ filter f xs → filter f (cond b (x ∷ filter p xs) (filter p xs)) ≡ cond (f x) (x ∷ filter f xs) (filter f xs)
      by true is q h rest = ap (λ (l : List X). cond (f x) (x ∷ l) l) rest
      by false is true h rest = absurd (true≢false (sym (needs x (contains_head x xs) h) ∙ is))
      by false is false h rest = rest ∙ sym (ap (λ (b : Bool). cond b (x ∷ filter f xs) (filter f xs)) h)

  -- cut by a label: if each that passes has one of the labels, once, as many pass as of each label together
  pub by_label : (label : X → ℕ) (labels : List ℕ) (xs : List X) → ((x : X) → Contains xs x → f x ≡ true → count_by (λ t. label x == t) labels ≡ 1) → length (filter f xs) ≡ sum_by (λ t. length (filter f (filter (λ x. label x == t) xs))) labels
  by_label label labels xs once =
      length-filter f xs
      ∙ (sum_same (λ x. cond {A = ℕ} (f x) 1 0) (λ x. sum_by (λ t. cond (label x == t) (cond {A = ℕ} (f x) 1 0) 0) labels) xs one
      ∙ (sum_swapped (λ x t. cond (label x == t) (cond {A = ℕ} (f x) 1 0) 0) xs labels
      ∙ sum_same (λ t. sum_by (λ x. cond (label x == t) (cond {A = ℕ} (f x) 1 0) 0) xs) (λ t. length (filter f (filter (λ x. label x == t) xs))) labels (λ t c. sym (length-filter f (filter (λ x. label x == t) xs) ∙ sum_filter (λ x. cond {A = ℕ} (f x) 1 0) (λ x. label x == t) xs))))
    where
      none : (x : X) (b : Bool) → b ≡ false → sum_by (λ t. cond (label x == t) (cond {A = ℕ} b 1 0) 0) labels ≡ 0
      none x b is = sum_same (λ t. cond (label x == t) (cond {A = ℕ} b 1 0) 0) (λ t. zero) labels (λ t c. shut (label x == t)) ∙ sum_zero labels
        where
          shut : (q : Bool) → cond q (cond {A = ℕ} b 1 0) 0 ≡ 0
          shut true = ap (λ (r : Bool). cond {A = ℕ} r 1 0) is
          shut false = refl

      one : (x : X) → Contains xs x → cond {A = ℕ} (f x) 1 0 ≡ sum_by (λ t. cond (label x == t) (cond {A = ℕ} (f x) 1 0) 0) labels
      one x c = elim (cases_Bool (f x)) [
        | inl h ↦ ap (λ (b : Bool). cond {A = ℕ} b 1 0) h ∙ (sym (once x c h) ∙ ap (λ (b : Bool). sum_by (λ t. cond (label x == t) (cond {A = ℕ} b 1 0) 0) labels) (sym h))
        | inr h ↦ ap (λ (b : Bool). cond {A = ℕ} b 1 0) h ∙ sym (none x (f x) h)
      ]
