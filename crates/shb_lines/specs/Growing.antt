-- Lists that have a default past their end.
use Rattle.std.specs.Prelude.{◌≡◌, ◌≢◌, ℕ, List, slice_index_or}

-- the item was put at the index, and each other item is as it was
pub record IsPut {T : Type 0} (default : T) (at : ℕ) (item : T) (old new : List T) : Type 0 where
  pub there : slice_index_or new at default ≡ item
  pub others : (k : ℕ) → k ≢ at → slice_index_or new k default ≡ slice_index_or old k default
