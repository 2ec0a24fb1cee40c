-- Accesses and races that are found in a stream, and their order.
use Rattle.std.specs.Prelude.{◌≡◌, ℕ, Bool, true, false, List, Option, None, Some, option_and_then, slice_get, if◌then◌else◌, ◌⊎◌, ◌<◌, ◌≤◌, AllPairs}
use Rattle.shb_lines.specs.declared.event.Event.{Event}
use Rattle.shb_lines.specs.declared.event.Op.{Op}
use Rattle.shb_lines.specs.declared.event.Op.TheVariants.{Read, Write}
use Rattle.shb_lines.specs.events.Events.{thread_at, op_at}
use Rattle.shb_lines.specs.events.Race.{variable_at}
use Rattle.shb_nearest.specs.declared.access.Spot.{Spot}
use Rattle.shb_nearest.specs.declared.access.FoundAccess.{FoundAccess}
use Rattle.shb_nearest.specs.declared.access.FoundRace.{FoundRace}
use Rattle.std.specs.List.Sorted.{IsPermutation}

-- the location of the event at a position, by its number
abbrev pub location_in : List Spot → ℕ → Option ℕ
location_in spots k = option_and_then (λ (s : Spot). Some s.location) (slice_get spots k)

-- what tells places apart: the location of an event, by its number, and where it is asked for its variable
abbrev pub site_in : Bool → List Event → List Spot → ℕ → Option ℕ × Option ℕ
site_in by_variable trace spots k = (location_in spots k, if by_variable then variable_at trace k else None)

-- an access of a variable, which writes or reads
abbrev pub access_op : Bool → ℕ → Op
access_op true x = Write x
access_op false x = Read x

-- the access is one of the variable, with its thread and its spot
pub record IsFoundAccess (trace : List Event) (spots : List Spot) (x : ℕ) (access : FoundAccess) : Type 0 where
  pub thread_is : thread_at trace access.event ≡ Some access.thread
  pub op_is : op_at trace access.event ≡ Some (access_op access.writes x)
  pub spot_is : slice_get spots access.event ≡ Some access.spot

-- both accesses of the race are
pub record IsFoundRace (trace : List Event) (spots : List Spot) (race : FoundRace) : Type 0 where
  pub first_is : IsFoundAccess trace spots race.variable race.first
  pub second_is : IsFoundAccess trace spots race.variable race.second

-- the two positions of a race
abbrev pub ends_of : FoundRace → ℕ × ℕ
ends_of race = (race.first.event, race.second.event)

-- one race doesn't stand after another: by the later event, then by the earlier
abbrev pub NotAfter : FoundRace → FoundRace → Type 0
NotAfter a b = (a.second.event < b.second.event) ⊎ ((a.second.event ≡ b.second.event) × (a.first.event ≤ b.first.event))

-- the same races, in order
pub record IsInOrder (races sorted : List FoundRace) : Type 0 where
  pub permutation : IsPermutation races sorted
  pub in_order : AllPairs NotAfter sorted
