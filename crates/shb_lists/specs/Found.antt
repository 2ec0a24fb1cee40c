-- The accesses of open variables in the order of the race list, each with how many races it has.
use Rattle.std.specs.Prelude.{◌≡◌, ◌<◌, ◌+◌, ◌*◌, ℕ, Bool, true, List, Some, All, flat_map, length, map, min, slice_range}
use Rattle.shb_lines.specs.declared.event.Event.{Event}
use Rattle.shb_lines.specs.events.Race.{variable_at}
use Rattle.shb_lines.specs.events.Reach.{numbers_where}
use Rattle.shb_stamps.specs.Accesses.{accesses_in, races_with}
use Rattle.shb_stamps.specs.Listed.{ListedTrace, is_listed}
use Rattle.shb_stamps.specs.Open.{is_open}
use Rattle.shb_counts.specs.Accesses.{AreAccesses, IsAccess}
use Rattle.shb_counts.specs.declared.accesses.Access.{Access}
use Rattle.shb_counts.specs.declared.accesses.Accesses.{Accesses}
use Rattle.shb_lists.specs.declared.by_event.ListedAccess.{ListedAccess}

-- the accesses of open variables, by variable, then by event
abbrev pub listed : List Event → List Bool → ℕ → List ℕ
listed trace flags variables = flat_map (accesses_in trace) (numbers_where (is_open flags) variables)

-- its event
abbrev pub event_of : ListedAccess → ℕ
event_of access = access.event

-- the access alone
abbrev pub access_in : ListedAccess → Access
access_in access = record { variable = access.variable; location = access.location; writes = access.writes; event = access.event; thread = access.thread }

-- an access of an open variable with how many races it has
pub record IsListed (trace : List Event) (flags : List Bool) (numbers : List ℕ) (access : ListedAccess) : Type 0 where
  pub of_trace : IsAccess trace numbers (access_in access)
  pub opened : is_open flags access.variable ≡ true
  pub races : access.races ≡ length (races_with trace access.event)

-- all of them, by variable, then by event
pub record AreListed (trace : List Event) (flags : List Bool) (numbers : List ℕ) (variables : ℕ) (list : List ListedAccess) : Type 0 where
  pub events : map event_of list ≡ listed trace flags variables
  pub each : All (IsListed trace flags numbers) list

-- each number of a variable is below this one
abbrev pub AreVariables : List Event → ℕ → Type 0
AreVariables trace variables = (e x : ℕ) → variable_at trace e ≡ Some x → x < variables

-- accesses of open variables, which the order can be asked about, and what they may race with
pub record CanBeFound (ordered : ListedTrace) (flags : List Bool) (numbers : List ℕ) (accesses : Accesses) (list : List ListedAccess) : Type 0 where
  pub kept : AreAccesses ordered.trace flags numbers accesses
  pub each : All (IsListed ordered.trace flags numbers) list
  pub asked : All (λ access. is_listed ordered.events access.event ≡ true) list

-- the races of some accesses, one after the other
abbrev pub races_of : List Event → List ListedAccess → List (ℕ × ℕ)
races_of trace list = flat_map (races_with trace) (map event_of list)

-- accesses that are cut into so many pieces of this size
pub record FindWork : Type 0 where
  pub trace : List Event
  pub list : List ListedAccess
  pub size : ℕ
  pub pieces : ℕ

-- the races of the piece of this number
abbrev pub piece_races : FindWork → ℕ → List (ℕ × ℕ)
piece_races work k = races_of work.trace (slice_range work.list (min (work.size * k) (length work.list)) (min (work.size * (k + 1)) (length work.list)))
