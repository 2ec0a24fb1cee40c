-- Accesses whose races are counted in pieces.
use Rattle.std.specs.Prelude.{◌≡◌, ◌+◌, ◌*◌, ℕ, List, length, min, slice_range}
use Rattle.shb_lines.specs.declared.event.Event.{Event}
use Rattle.shb_counts.specs.declared.accesses.Access.{Access}
use Rattle.shb_counts.specs.declared.runs.Counted.{Counted}

-- what is counted of some accesses
pub record PieceCount : Type 0 where
  pub trace : List Event
  pub numbers : List ℕ
  pub list : List Access
  pub counted : Counted

-- it is counted in this trace, whose locations have these numbers
pub record IsPieceOf (trace : List Event) (numbers : List ℕ) (piece : PieceCount) : Type 0 where
  pub same_trace : piece.trace ≡ trace
  pub same_numbers : piece.numbers ≡ numbers

-- accesses that are cut into so many pieces of this size
pub record CountWork : Type 0 where
  pub trace : List Event
  pub numbers : List ℕ
  pub list : List Access
  pub size : ℕ
  pub pieces : ℕ

-- the accesses of the piece of this number
abbrev pub piece_of : CountWork → ℕ → List Access
piece_of work k = slice_range work.list (min (work.size * k) (length work.list)) (min (work.size * (k + 1)) (length work.list))
