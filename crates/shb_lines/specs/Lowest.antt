-- Of several things of one kind that hold, the one of lowest number.
use Rattle.std.specs.Prelude.{◌≤◌, ℕ, Option, None, Some}

-- the one of lowest number of those that hold, or None where none holds
module _ {A : Type 0} (number : A → ℕ) (Holds : A → Type 0) where
  abbrev pub IsLowest : Option A → Type 0
  IsLowest None = (a : A) → Holds a → ⊥
  IsLowest (Some a) = Holds a × ((other : A) → Holds other → number a ≤ number other)
