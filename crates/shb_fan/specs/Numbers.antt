-- How often a number stands in a list, and in the list of the numbers below a bound.
use Rattle.std.specs.Prelude.{ℕ, ◌+◌, Bool, true, false, ltb, eqb, List, [], ◌∷◌}

abbrev pub weight : Bool → ℕ
weight true = 1
weight false = 0

abbrev pub times : ℕ → List ℕ → ℕ
times x [] = 0
times x (y ∷ ys) = weight (eqb x y) + times x ys

-- 1 for a number below n, else 0
abbrev pub once_below : ℕ → ℕ → ℕ
once_below x n = weight (ltb x n)

-- f of each, added up
abbrev pub total : {V : Type 0} → (V → ℕ) → List V → ℕ
total f [] = 0
total f (v ∷ vs) = f v + total f vs
