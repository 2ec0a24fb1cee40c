-- Sums over the views, and how often a number stands in a list.
use Rattle.std.proofs.Common.{◌≡◌, ◌≢◌, ℕ, zero, suc, ◌+◌, ◌<◌, ◌≤◌, Bool, true, false, ltb, eqb, List, [], ◌∷◌, ◌++◌, length, get_or, set, sym, refl, ap, subst, ⊎_elim, arith, min, All, sum_by, ◌∙◌}
use Rattle.std.specs.List.Sorted.{IsStrictlyIncreasing}
use Rattle.std.proofs.lemmas.Bool.{le-ltb}
use Rattle.std.proofs.lemmas.Bool.Decides.{nat_tests}
use Rattle.std.proofs.lemmas.List.Sums.{sum_by_push}
use mathlib.Core.Logic.{dite}
use mathlib.Core.Option.{some, some-injective, some-ne-none}
use native.Mathlib.Decide.{ℕ_discrete, dec_lt}
use lib.ListN.{get_elem?}
use Rattle.atomic_table.proofs.Lists.{at_set, at_snoc}
use Rattle.shb_fan.specs.declared.ticket_table.PassView.{PassView}
use Rattle.shb_fan.specs.Numbers.{weight, times, once_below, total}
use Rattle.shb_fan.specs.Drawing.{Sound}

-- a sum over a list with one element more, in two parts, and over no elements
module _ {A : Type 0} (f : A → ℕ) where
  pub counted : (all rest : List A) (last : A) (n m k : ℕ) → all ≡ rest ++ last ∷ [] → n + sum_by f all ≡ m → f last ≡ k → (n + k) + sum_by f rest ≡ m
  counted all rest last n m k longer was is = let a : sum_by f all ≡ sum_by f rest + f last = ap (sum_by f) longer ∙ sum_by_push f rest last in omega arith

  pub first_counted : (all rest : List A) (last : A) (k : ℕ) → all ≡ rest ++ last ∷ [] → f last ≡ k → k + sum_by f rest ≡ sum_by f all
  first_counted all rest last k longer is = let a : sum_by f all ≡ sum_by f rest + f last = ap (sum_by f) longer ∙ sum_by_push f rest last in omega arith

  pub sum_nothing : (xs : List A) → length xs ≡ 0 → sum_by f xs ≡ 0
  sum_nothing [] e = refl
  sum_nothing (x ∷ xs) e = absurd (omega arith)

module _ {V : Type 0} where
  pub total-set : (f : V → ℕ) (views : List V) (id : ℕ) (v w : V) → get_elem? views id ≡ some v → total f (set views id w) + f v ≡ total f views + f w
  total-set f [] id v w e = absurd (some-ne-none v (sym e))
  total-set f (x ∷ xs) zero v w e = let is : f x ≡ f v = ap f (some-injective x v e) in omega arith
  total-set f (x ∷ xs) (suc i) v w e = let r = total-set f xs i v w e in omega arith

  pub total-snoc : (f : V → ℕ) (views : List V) (w : V) → total f (views ++ w ∷ []) ≡ total f views + f w
  total-snoc f [] w = omega arith
  total-snoc f (x ∷ xs) w = let r = total-snoc f xs w in omega arith

  pub total-at : (f : V → ℕ) (views : List V) (id : ℕ) (v : V) → get_elem? views id ≡ some v → f v ≤ total f views
  total-at f [] id v e = absurd (some-ne-none v (sym e))
  total-at f (x ∷ xs) zero v e = let is : f x ≡ f v = ap f (some-injective x v e) in omega arith
  total-at f (x ∷ xs) (suc i) v e = let r = total-at f xs i v e in omega arith

  -- f is nowhere above g
  pub total-le : (f g : V → ℕ) (views : List V) → ((id : ℕ) (v : V) → get_elem? views id ≡ some v → f v ≤ g v) → total f views ≤ total g views
  total-le f g [] h = omega arith
  total-le f g (x ∷ xs) h = let a : f x ≤ g x = h 0 x refl in let r = total-le f g xs (λ id. h (suc id)) in omega arith

  module _ (parts : V → ℕ) (f : V → ℕ) where
    total-none : (views : List V) → total parts views ≡ 0 → ((i : ℕ) (w : V) → get_elem? views i ≡ some w → parts w ≡ 0 → f w ≡ 0) → total f views ≡ 0
    total-none [] all empty = refl
    total-none (x ∷ xs) all empty = let here : f x ≡ 0 = empty 0 x refl (omega arith) in let r = total-none xs (omega arith) (λ i. empty (suc i)) in omega arith

    -- one view has every part, and f is nothing at a view without a part
    pub total-whole : (views : List V) (id : ℕ) (v : V) → get_elem? views id ≡ some v → total parts views ≡ parts v
        → ((i : ℕ) (w : V) → get_elem? views i ≡ some w → parts w ≡ 0 → f w ≡ 0) → total f views ≡ f v
    total-whole [] id v e all empty = absurd (some-ne-none v (sym e))
    total-whole (x ∷ xs) zero v e all empty =
        let is : f x ≡ f v = ap f (some-injective x v e) in let same : parts x ≡ parts v = ap parts (some-injective x v e) in
        let r = total-none xs (omega arith) (λ i. empty (suc i)) in omega arith
    total-whole (x ∷ xs) (suc id) v e all empty =
        let some_of : parts v ≤ total parts xs = total-at parts xs id v e in let here : f x ≡ 0 = empty 0 x refl (omega arith) in
        let r = total-whole xs id v e (omega arith) (λ i. empty (suc i)) in omega arith

pub sound-set : (views : List PassView) (id : ℕ) (w : PassView) → Sound w → ((i : ℕ) (v : PassView) → get_elem? views i ≡ some v → Sound v)
    → (i : ℕ) (v : PassView) → get_elem? (set views id w) i ≡ some v → Sound v
sound-set views id w mine others i v e = ⊎_elim (λ (t : (i ≡ id) × (w ≡ v)). subst Sound t.1 mine) (λ (t : (i ≢ id) × (get_elem? views i ≡ some v)). others i v t.1) (at_set views id i w v e)

pub sound-snoc : (views : List PassView) (w : PassView) → Sound w → ((i : ℕ) (v : PassView) → get_elem? views i ≡ some v → Sound v)
    → (i : ℕ) (v : PassView) → get_elem? (views ++ w ∷ []) i ≡ some v → Sound v
sound-snoc views w mine others i v e = ⊎_elim (λ (t : get_elem? views i ≡ some v). others i v t) (λ (t : w ≡ v). subst Sound t mine) (at_snoc views w v i e)

pub times-append : (x : ℕ) (xs ys : List ℕ) → times x (xs ++ ys) ≡ times x xs + times x ys
times-append x [] ys = omega arith
times-append x (y ∷ xs) ys = let r = times-append x xs ys in omega arith

pub times-snoc : (x : ℕ) (xs : List ℕ) (k : ℕ) → times x (xs ++ k ∷ []) ≡ times x xs + weight (eqb x k)
times-snoc x xs k = let r = times-append x xs (k ∷ []) in omega arith

pub weight-true : (b : Bool) → b ≡ true → weight b ≡ 1
weight-true b e = ap weight e

pub weight-false : (b : Bool) → b ≡ false → weight b ≡ 0
weight-false b e = ap weight e

pub weight-most : (b : Bool) → weight b ≤ 1
weight-most true = omega arith
weight-most false = omega arith

-- a number above all others isn't among them
pub times-below : (k : ℕ) (xs : List ℕ) → All (λ x. x < k) xs → times k xs ≡ 0
times-below k [] all = refl
times-below k (x ∷ xs) all =
    let lt = all 0 x (omega arith) in
    let here = weight-false (eqb k x) (grind (arith, nat_tests, lt)) in
    let rest = times-below k xs (λ i d inside. all (suc i) d (omega (arith, inside))) in omega (arith, here, rest)

pub once_below-more : (x n : ℕ) → once_below x (n + 1) ≡ once_below x n + weight (eqb x n)
once_below-more x n = dite (ℕ_discrete x n)
    (λ e. let a = weight-true (ltb x (n + 1)) (grind (arith, nat_tests)) in let b = weight-false (ltb x n) (grind (arith, nat_tests)) in let d = weight-true (eqb x n) (grind (arith, nat_tests)) in omega arith)
    (λ e. let d = weight-false (eqb x n) (grind (arith, nat_tests)) in dite (dec_lt x n)
    (λ l. let a = weight-true (ltb x (n + 1)) (grind (arith, nat_tests)) in let b = weight-true (ltb x n) (grind (arith, nat_tests)) in omega arith)
    (λ l. let a = weight-false (ltb x (n + 1)) (grind (arith, nat_tests)) in let b = weight-false (ltb x n) (grind (arith, nat_tests)) in omega arith))

pub times-here : (x : ℕ) (xs : List ℕ) (k : ℕ) → k < length xs → x ≡ get_or xs k x → 1 ≤ times x xs
times-here x [] k h e = absurd (omega arith)
times-here x (y ∷ ys) zero h e = let a = weight-true (eqb x y) (grind (arith, nat_tests)) in omega arith
times-here x (y ∷ ys) (suc k) h e = let r = times-here x ys k (omega arith) e in omega arith

pub once-within : (x n : ℕ) → 1 ≤ once_below x n → x < n
once-within x n h = dite (dec_lt x n) (λ l. l) (λ l. let b = weight-false (ltb x n) (grind (arith, nat_tests)) in absurd (omega arith))

get_or-within : (xs : List ℕ) (k d e : ℕ) → k < length xs → get_or xs k d ≡ get_or xs k e
get_or-within [] k d e h = absurd (omega arith)
get_or-within (x ∷ xs) zero d e h = refl
get_or-within (x ∷ xs) (suc k) d e h = get_or-within xs k d e (omega arith)

-- numbers that stand no more often than those below n are below n
pub all-below : (xs : List ℕ) (n : ℕ) → ((x : ℕ) → times x xs ≤ once_below x n) → All (λ x. x < n) xs
all-below xs n h k d l = let x : ℕ = get_or xs k d in let here : 1 ≤ times x xs = times-here x xs k l (get_or-within xs k d x l) in let most = h x in once-within x n (omega arith)

at_most_once : (x n k : ℕ) → 1 ≤ k → once_below x n ≤ k
at_most_once x n k h = dite (dec_lt x n) (λ l. let b = weight-true (ltb x n) (grind (arith, nat_tests)) in omega arith) (λ l. let b = weight-false (ltb x n) (grind (arith, nat_tests)) in omega arith)

pub once_below-min : (x m n : ℕ) → once_below x (min m n) ≤ once_below x n
once_below-min x m n = dite (dec_lt x n)
    (λ l. let b = weight-true (ltb x n) (grind (arith, nat_tests)) in at_most_once x (min m n) (once_below x n) (omega arith))
    (λ l. let b = weight-false (ltb x (min m n)) (le-ltb x (min m n) (omega arith)) in omega arith)

pub once_below-nothing : (x n : ℕ) → n ≡ 0 → once_below x n ≡ 0
once_below-nothing x n e = weight-false (ltb x n) (le-ltb x n (omega arith))

-- a number above all the others goes after them
next_after : (i : ℕ) → suc i + 1 ≡ suc (i + 1)
next_after i = omega arith

pub rising_tail : (x : ℕ) (xs : List ℕ) → IsStrictlyIncreasing (x ∷ xs) → IsStrictlyIncreasing xs
rising_tail x xs rising j inside = subst (λ (n : ℕ). get_or xs j 0 < get_or (x ∷ xs) n 0) (next_after j) (rising (suc j) (omega arith))

pub rising_cons : (x y : ℕ) (ys : List ℕ) → x < y → IsStrictlyIncreasing (y ∷ ys) → IsStrictlyIncreasing (x ∷ y ∷ ys)
rising_cons x y ys less rising zero inside = less
rising_cons x y ys less rising (suc i) inside = subst (λ (n : ℕ). get_or (y ∷ ys) i 0 < get_or (x ∷ y ∷ ys) n 0) (sym (next_after i)) (rising i (omega arith))

pub rising_one : (x : ℕ) → IsStrictlyIncreasing (x ∷ [])
rising_one x i inside = absurd (omega arith)

pub rising_more : (xs : List ℕ) (k : ℕ) → IsStrictlyIncreasing xs → All (λ x. x < k) xs → IsStrictlyIncreasing (xs ++ k ∷ [])
rising_more [] k rising below = rising_one k
rising_more (x ∷ []) k rising below = rising_cons x k [] (below 0 0 (omega arith)) (rising_one k)
rising_more (x ∷ y ∷ ys) k rising below = rising_cons x y (ys ++ k ∷ []) (rising 0 (omega arith)) (rising_more (y ∷ ys) k (rising_tail x (y ∷ ys) rising) (λ j d l. below (suc j) d (omega arith)))
