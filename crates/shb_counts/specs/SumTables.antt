-- How a sum of races is joined with another one of its place.
use Rattle.std.specs.Prelude.{◌≡◌, ◌+◌, ◌<◌, ◌≤◌, ◌⊎◌, ℕ, List, Some, slice_get, slice_set}
use Rattle.shb_counts.specs.declared.sums.PlaceSum.{PlaceSum}

-- two sums are of one place and variable
pub record IsAlike (one other : PlaceSum) : Type 0 where
  pub first : one.first ≡ other.first
  pub second : one.second ≡ other.second
  pub variable : one.variable ≡ other.variable

-- the race of the other doesn't stand before that of this one, where both are of one variable
abbrev pub IsNoLater : PlaceSum → PlaceSum → Type 0
IsNoLater one other = (one.later < other.later) ⊎ ((one.later ≡ other.later) × (one.earlier ≤ other.earlier))

-- a sum has the race of this one, which doesn't stand after that of the other
pub record HasRace (of other sum : PlaceSum) : Type 0 where
  pub later : sum.later ≡ of.later
  pub earlier : sum.earlier ≡ of.earlier
  pub least : IsNoLater of other

-- two sums of one place as one
pub record IsJoined (known more sum : PlaceSum) : Type 0 where
  pub alike : IsAlike known more
  pub place : IsAlike known sum
  pub count : sum.count ≡ known.count + more.count
  pub race : HasRace known more sum ⊎ HasRace more known sum

-- one of the sums is joined with this one
pub record HasJoined (more : PlaceSum) (old new : List PlaceSum) : Type 0 where
  pub slot : ℕ
  pub known : PlaceSum
  pub sum : PlaceSum
  pub there : slice_get old slot ≡ Some known
  pub is : IsJoined known more sum
  pub rest : new ≡ slice_set old slot sum
