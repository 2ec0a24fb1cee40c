-- Counts over the first events of a list, and over the list of chosen indices.
use Rattle.std.proofs.lemmas.Grind.{common_steps}
use Rattle.std.proofs.Common.{◌≡◌, ℕ, zero, suc, ◌+◌, ◌<◌, ◌≤◌, ◌⊎◌, inl, inr, Bool, true, false, List, [], ◌∷◌, Some, length, get_or, take, refl, sym, ◌∙◌, ap, arith, add-one}
use Rattle.std.specs.Prelude.{slice_get, Contains, count_by, cond}
use Rattle.std.specs.List.Sorted.{IsStrictlyIncreasing}
use Rattle.std.proofs.lemmas.Bool.{cases_Bool, cases_lt}
use Rattle.std.proofs.lemmas.List.{take-take, take_all}
use Rattle.std.proofs.lemmas.List.Sums.{count_by_more_yes, count_by_more_no, sum_by-take-le, sum_by-cons}
use Rattle.std.proofs.lemmas.Option.{slice_get_within, get_or_from_slice_get, slice_get_cases, slice_get-get_or}
use Rattle.shb_lines.proofs.events.Indices.{index_of, increasing_indices, smaller_before}

pub count_more_yes : {X : Type 0} (f : X → Bool) (xs : List X) (k : ℕ) (e : X) → slice_get xs k ≡ Some e → f e ≡ true → count_by f (take (k + 1) xs) ≡ count_by f (take k xs) + 1
count_more_yes f xs k e at passes = count_by_more_yes f xs k e (slice_get_within xs k e at) (ap f (get_or_from_slice_get xs k e e at) ∙ passes)

pub count_more_no : {X : Type 0} (f : X → Bool) (xs : List X) (k : ℕ) (e : X) → slice_get xs k ≡ Some e → f e ≡ false → count_by f (take (k + 1) xs) ≡ count_by f (take k xs)
count_more_no f xs k e at fails = count_by_more_no f xs k e (slice_get_within xs k e at) (ap f (get_or_from_slice_get xs k e e at) ∙ fails)

-- past the end nothing more is counted
pub take_more_past : {X : Type 0} (xs : List X) (k : ℕ) → length xs ≤ k → take (k + 1) xs ≡ take k xs
take_more_past xs k past = take_all (k + 1) xs (omega arith) ∙ sym (take_all k xs past)

-- a longer front has no smaller count
pub count_mono : {X : Type 0} (f : X → Bool) (xs : List X) (j k : ℕ) → j ≤ k → count_by f (take j xs) ≤ count_by f (take k xs)
count_mono {X} f xs j k le = rw (take-take j k xs le) at (sum_by-take-le (λ (x : X). cond (f x) 1 0) (take k xs) j)

-- what is counted at b makes the count of a longer front positive
pub counted_before : {X : Type 0} (f : X → Bool) (xs : List X) (b k : ℕ) (e : X) → slice_get xs b ≡ Some e → f e ≡ true → b < k → 0 < count_by f (take k xs)
counted_before f xs b k e at passes lt = grind (arith, common_steps, count_more_yes, count_mono)

-- where nothing from a on is counted, the count stays
pub count_gap : {X : Type 0} (f : X → Bool) (xs : List X) (a b : ℕ) → a ≤ b → ((k : ℕ) (e : X) → a ≤ k → k < b → slice_get xs k ≡ Some e → f e ≡ false) → count_by f (take b xs) ≡ count_by f (take a xs)
count_gap f xs a zero le fails = let e : a ≡ 0 = omega arith in ap (λ n. count_by f (take n xs)) (sym e)
count_gap {X} f xs a (suc b) le fails = go (cases_lt b a) (λ h. count_gap f xs a b h (λ k e ak kb at. fails k e ak (omega arith) at))
  where
    go : (b < a) ⊎ (a ≤ b) → (a ≤ b → count_by f (take b xs) ≡ count_by f (take a xs)) → count_by f (take (suc b) xs) ≡ count_by f (take a xs)
    go (inl h) ih = let e : a ≡ suc b = omega arith in ap (λ n. count_by f (take n xs)) (sym e)
    go (inr h) ih = last ∙ ih h
      where
        at_event : (e : X) → slice_get xs b ≡ Some e → count_by f (take (suc b) xs) ≡ count_by f (take b xs)
        at_event e at = rw add-one at (count_more_no f xs b e at (fails b e h (omega arith) at))

        last : count_by f (take (suc b) xs) ≡ count_by f (take b xs)
        last = elim (slice_get_cases xs b).1 [
          | inl c ↦ at_event c.0 c.2
          | inr c ↦ ap (λ ys. count_by f ys) (rw add-one at (take_more_past xs b c.0))
        ]

-- one count as the sum of two
pub count_split : {X : Type 0} (f g h : X → Bool) → ((e : X) → cond (f e) 1 0 ≡ cond (g e) 1 0 + cond (h e) 1 0) → (xs : List X) → count_by f xs ≡ count_by g xs + count_by h xs
count_split f g h parts [] = refl
count_split {X} f g h parts (x ∷ xs) =
    let a = sum_by-cons (λ (e : X). cond (f e) 1 0) x xs in
    let b = sum_by-cons (λ (e : X). cond (g e) 1 0) x xs in
    let c = sum_by-cons (λ (e : X). cond (h e) 1 0) x xs in
    let here = parts x in
    let rest = count_split f g h parts xs in
    omega (arith, a, b, c, here, rest)

-- each index of ys holds what xs holds at the position that s has there
module _ {X : Type 0} (xs ys : List X) (s : List ℕ) (rising : IsStrictlyIncreasing s) (same : (p a : ℕ) → slice_get s p ≡ Some a → (e : X) × (slice_get ys p ≡ Some e) × (slice_get xs a ≡ Some e)) where
  before : (q b : ℕ) → slice_get s (suc q) ≡ Some b → (a : ℕ) × (slice_get s q ≡ Some a) × (a < b)
  before q b at =
      let within = slice_get_within s (suc q) b at in
      let at_q = slice_get-get_or s q 0 (omega arith) in
      (get_or s q 0, at_q, smaller_before s q (suc q) (get_or s q 0) b rising (omega arith) at_q at)

  step_le : (f : X → Bool) (q a b : ℕ) (e : X) → slice_get ys q ≡ Some e → slice_get xs a ≡ Some e → a < b → count_by f (take q ys) ≤ count_by f (take a xs) → (f e ≡ true) ⊎ (f e ≡ false) → count_by f (take (q + 1) ys) ≤ count_by f (take b xs)
  step_le f q a b e at_ys at_xs lt ih (inl passes) =
      let one = count_more_yes f ys q e at_ys passes in
      let other = count_more_yes f xs a e at_xs passes in
      let more = count_mono f xs (a + 1) b (omega arith) in
      omega (arith, one, other, more)
  step_le f q a b e at_ys at_xs lt ih (inr fails) =
      let one = count_more_no f ys q e at_ys fails in
      let more = count_mono f xs a b (omega arith) in
      omega (arith, one, more)

  -- no more is counted among the chosen events than in the whole front
  pub counts_le : (f : X → Bool) (q b : ℕ) → slice_get s q ≡ Some b → count_by f (take q ys) ≤ count_by f (take b xs)
  counts_le f zero b at = omega arith
  counts_le f (suc q) b at =
      let prior = before q b at in
      let e = same q prior.0 prior.1 in
      rw add-one at (step_le f q prior.0 b e.0 e.1 e.2 prior.2 (counts_le f q prior.0 prior.1) (cases_Bool (f e.0)))

  step_ge : (f : X → Bool) (q a : ℕ) (e : X) → slice_get ys q ≡ Some e → slice_get xs a ≡ Some e → count_by f (take a xs) ≤ count_by f (take q ys) → (f e ≡ true) ⊎ (f e ≡ false) → count_by f (take (a + 1) xs) ≤ count_by f (take (q + 1) ys)
  step_ge f q a e at_ys at_xs ih (inl passes) = omega (arith, count_more_yes f ys q e at_ys passes, count_more_yes f xs a e at_xs passes)
  step_ge f q a e at_ys at_xs ih (inr fails) = omega (arith, count_more_no f ys q e at_ys fails, count_more_no f xs a e at_xs fails)

  -- between an index's position and the next one nothing is counted
  nothing_between : (f : X → Bool) (q a b : ℕ) → ((k : ℕ) (e : X) → k < b → slice_get xs k ≡ Some e → f e ≡ true → Contains s k) → ((p k : ℕ) → slice_get s p ≡ Some k → k < b → k < a) → a ≤ b → count_by f (take b xs) ≡ count_by f (take a xs)
  nothing_between f q a b chosen low le = count_gap f xs a b le (λ k e ak kb at. go k e ak kb at (cases_Bool (f e)))
    where
      go : (k : ℕ) (e : X) → a ≤ k → k < b → slice_get xs k ≡ Some e → (f e ≡ true) ⊎ (f e ≡ false) → f e ≡ false
      go k e ak kb at (inr fails) = fails
      go k e ak kb at (inl passes) =
          let index = index_of s k (chosen k e kb at passes) in
          let small = low index.0 k index.1 kb in
          absurd (omega arith)

  pub counts_ge : (f : X → Bool) (q b : ℕ) → slice_get s q ≡ Some b → ((k : ℕ) (e : X) → k < b → slice_get xs k ≡ Some e → f e ≡ true → Contains s k) → count_by f (take b xs) ≤ count_by f (take q ys)
  counts_ge f zero b at chosen =
      let none = nothing_between f 0 0 b chosen (λ p k at_p kb. absurd (let lt = increasing_indices s p 0 k b rising at_p at kb in omega arith)) (omega arith) in
      omega (arith, none)
  counts_ge f (suc q) b at chosen =
      let prior = before q b at in
      let e = same q prior.0 prior.1 in
      let ih = counts_ge f q prior.0 prior.1 (λ k d ka at_k passes. chosen k d (let lt = prior.2 in omega arith) at_k passes) in
      let one = step_ge f q prior.0 e.0 e.1 e.2 ih (cases_Bool (f e.0)) in
      let gap = nothing_between f q (prior.0 + 1) b chosen (λ p k at_p kb. low p k prior.0 prior.1 at_p (increasing_indices s p (suc q) k b rising at_p at kb) (cases_lt p q)) (let lt = prior.2 in omega arith) in
      let bound : count_by f (take b xs) ≤ count_by f (take (q + 1) ys) = omega (arith, one, gap) in
      rw add-one at bound
    where
      low : (p k a : ℕ) → slice_get s q ≡ Some a → slice_get s p ≡ Some k → p < suc q → (p < q) ⊎ (q ≤ p) → k < a + 1
      low p k a at_q at_p lt (inl h) = let small = smaller_before s p q k a rising h at_p at_q in omega arith
      low p k a at_q at_p lt (inr h) =
          let same_index : p ≡ q = omega arith in
          let value : Some k ≡ Some a = sym at_p ∙ (ap (slice_get s) same_index ∙ at_q) in
          let equal : k ≡ a = cc in
          omega (arith, equal)
