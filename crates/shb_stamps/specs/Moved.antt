-- Rows of which those in use are moved to new ones.
use Rattle.std.specs.Prelude.{◌≡◌, ℕ, ◌+◌, ◌-◌, ◌<◌, ◌≤◌, List, [], length, slice_index_or}
use Rattle.shb_stamps.specs.Stamps.{AreMore, empty_stamp}
use Rattle.shb_stamps.specs.declared.stamp.Stamp.{Stamp}

-- the new row b is the old row a
pub record IsMovedRow (old new : List (List ℕ)) (a b : ℕ) : Type 0 where
  pub in_range : b < length new
  pub same : slice_index_or new b [] ≡ slice_index_or old a []

-- the same, if there is an old row a
abbrev pub MovesRow : List (List ℕ) → List (List ℕ) → ℕ → ℕ → Type 0
MovesRow old new a b = a < length old → IsMovedRow old new a b

-- the number of its row has moved, and nothing else of the stamp
pub record IsMovedStamp (IsMoved : ℕ → ℕ → Type 0) (before after : Stamp) : Type 0 where
  pub thread : after.thread ≡ before.thread
  pub time : after.time ≡ before.time
  pub row : IsMoved before.row after.row

-- lists of one length, in which the items at each position stand in the relation
pub record AreAlike {A : Type 0} (default : A) (IsAlike : A → A → Type 0) (before after : List A) : Type 0 where
  pub as_many : length after ≡ length before
  pub each : (x : ℕ) → x < length before → IsAlike (slice_index_or before x default) (slice_index_or after x default)

-- the first row stays the first; the rows that tables name are among the new rows, which aren't more, and the tables name them there
pub record HasMoved (old new : List (List ℕ)) (current current_after : List ℕ) (locks locks_after variables variables_after : List Stamp) : Type 0 where
  pub few : length new ≤ length old
  pub first : IsMovedRow old new 0 0
  pub numbers : AreAlike 0 (MovesRow old new) current current_after
  pub releases : AreAlike empty_stamp (IsMovedStamp (MovesRow old new)) locks locks_after
  pub writes : AreAlike empty_stamp (IsMovedStamp (MovesRow old new)) variables variables_after

-- rows that had marks have some, and more may
pub record HasMarked (before after : List ℕ) : Type 0 where
  pub as_many : length after ≡ length before
  pub more : (a : ℕ) → 0 < slice_index_or before a 0 → 0 < slice_index_or after a 0

-- the first n of these rows have marks
abbrev pub AreMarked : List ℕ → (ℕ → ℕ) → ℕ → Type 0
AreMarked marks row n = (x : ℕ) → x < n → row x < length marks → 0 < slice_index_or marks (row x) 0

-- b is the new number of the row a, which stands there plus 1
abbrev pub IsNewNumber : List ℕ → ℕ → ℕ → Type 0
IsNewNumber moved a b = b ≡ slice_index_or moved a 0 - 1

-- the row a has come to the end of new rows, if it had a mark, and its new number plus 1 stands there
pub record HasTaken (old : List (List ℕ)) (a : ℕ) (new new_after : List (List ℕ)) (marks marks_after : List ℕ) : Type 0 where
  pub as_many : length marks_after ≡ length marks
  pub rows : AreMore new new_after
  pub few : length new_after ≤ length new + 1
  pub others : (b : ℕ) → (b ≡ a → ⊥) → slice_index_or marks_after b 0 ≡ slice_index_or marks b 0
  pub moved : 0 < slice_index_or marks a 0 → (slice_index_or marks_after a 0 ≡ length new + 1) × IsMovedRow old new_after a (length new)

-- the rows that had marks are among the new ones, each at its new number, and no more than had room for a mark
pub record HasCompacted (old new : List (List ℕ)) (marks moved : List ℕ) : Type 0 where
  pub few : length new ≤ length marks
  pub first : 0 < slice_index_or marks 0 0 → slice_index_or moved 0 0 ≡ 1
  pub each : (a : ℕ) → a < length marks → 0 < slice_index_or marks a 0 → IsMovedRow old new a (slice_index_or moved a 0 - 1)
