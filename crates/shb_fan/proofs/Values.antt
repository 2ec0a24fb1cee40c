-- The values of a job's pieces, in order.
use Rattle.std.proofs.Common.{◌≡◌, ℕ, zero, suc, ◌<◌, List, [], ◌∷◌, ◌++◌, length, length-append, sym, refl, ap, ◌∙◌, arith, Option, None, Some, slice_get}
use mathlib.Core.Logic.{dite}
use native.Mathlib.Decide.{ℕ_discrete}
use Rattle.atomic_table.specs.Table.{rest}
use Rattle.shb_fan.specs.Values.{values_of}

get_front : {X : Type 0} (xs ys : List X) (k : ℕ) → k < length xs → slice_get (xs ++ ys) k ≡ slice_get xs k
get_front [] ys k h = absurd (omega arith)
get_front (x ∷ xs) ys zero h = refl
get_front (x ∷ xs) ys (suc k) h = get_front xs ys k (omega arith)

get_last : {X : Type 0} (xs : List X) (y : X) (k : ℕ) → k ≡ length xs → slice_get (xs ++ y ∷ []) k ≡ Some y
get_last [] y zero h = refl
get_last [] y (suc k) h = absurd (omega arith)
get_last (x ∷ xs) y zero h = absurd (omega arith)
get_last (x ∷ xs) y (suc k) h = get_last xs y k (omega arith)

module _ {M : Type 0} (f : ℕ → M) where
  pub length-values : (n : ℕ) → length (values_of f n) ≡ n
  length-values zero = refl
  length-values (suc n) = length-append (values_of f n) (f n ∷ []) ∙ (let r = length-values n in omega arith)

  pub values-at : (n k : ℕ) → k < n → slice_get (values_of f n) k ≡ Some (f k)
  values-at zero k h = absurd (omega arith)
  values-at (suc n) k h = let long = length-values n in dite (ℕ_discrete k n)
      (λ e. get_last (values_of f n) (f n) k (omega arith) ∙ ap (λ (i : ℕ). Some (f i)) (sym e))
      (λ ne. get_front (values_of f n) (f n ∷ []) k (omega arith) ∙ values-at n k (omega arith))

-- the carried slots, by the first
module _ {S : Type 0} where
  pub headed : (l : List (ℕ × S)) (a : ℕ × S) (more : List (ℕ × S)) → l ≡ a ∷ more → l ≡ a ∷ rest l
  headed l a more e = e ∙ sym (ap (λ (m : List (ℕ × S)). a ∷ rest m) e)

  value_or : S → List (ℕ × S) → S
  value_or d [] = d
  value_or d (p ∷ ps) = p.1

  pub first_value : (l : List (ℕ × S)) (i j : ℕ) (x y : S) (more less : List (ℕ × S)) → l ≡ (i, x) ∷ more → l ≡ (j, y) ∷ less → x ≡ y
  unfolding value_or
  first_value l i j x y more less e f = ap (value_or x) (sym e ∙ f)

module _ {M : Type 0} where
  got_or : M → Option M → M
  got_or d None = d
  got_or d (Some x) = x

  -- the value that a seat found in its list of all values
  pub found_value : (f : ℕ → M) (wanted : List M) (n k j : ℕ) (m : M) → wanted ≡ values_of f n → k < n → j ≡ k → slice_get wanted j ≡ Some m → m ≡ f k
  unfolding got_or
  found_value f wanted n k j m all inside is e = ap (got_or m) (sym e ∙ (ap (slice_get wanted) is ∙ (ap (λ (l : List M). slice_get l k) all ∙ values-at f n k inside)))
