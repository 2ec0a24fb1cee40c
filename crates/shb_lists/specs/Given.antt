-- The races of a report, given a part at a time.
use Rattle.std.specs.Prelude.{◌≡◌, ◌-◌, ◌≤◌, ◌++◌, ℕ, Bool, true, List, [], All, IfSome, Option, None, Some, Vec, filter, length, map, nat_lt, slice_range, take}
use Rattle.std.specs.Global.{Global}
use Rattle.shb_lines.specs.declared.event.Event.{Event}
use Rattle.shb_lines.specs.events.Race.{Race}
use Rattle.shb_lines.specs.text.TraceData.{TraceData}
use Rattle.shb_format.specs.Places.{counts_in, places_of_pairs}
use Rattle.shb_format.specs.Report.{pair_of}
use Rattle.shb_stamps.specs.Listed.{is_listed}
use Rattle.shb_counts.specs.Accesses.{AreAccesses}
use Rattle.shb_lists.specs.Found.{IsListed, races_of}
use Rattle.shb_lists.specs.Listed.{pair_in}
use Rattle.shb_lists.specs.declared.by_event.ListedAccess.{ListedAccess}
use Rattle.shb_counts.specs.declared.accesses.Accesses.{Accesses}
use Rattle.shb_lists.specs.declared.list.RaceList.{RaceList}
use Rattle.shb_lists.specs.declared.list.Rest.{Rest}
use Rattle.shb_lists.specs.declared.list.Rest.TheVariants as rests
use Rattle.shb_lists.specs.declared.list.Turn.{Turn}
use Rattle.shb_lists.specs.declared.listed.ListedRace.{ListedRace}

-- those of some accesses that have races
abbrev pub racing : List ListedAccess → List ListedAccess
racing list = filter (λ access. nat_lt 0 access.races) list

-- all accesses of open variables of a trace, and some of them, whose races can be found
pub record AreKnown (trace : List Event) (accesses : Accesses) (list : List ListedAccess) : Type 0 where
  pub flags : List Bool
  pub numbers : List ℕ
  pub kept : AreAccesses trace flags numbers accesses
  pub each : All (IsListed trace flags numbers) list

-- the accesses from this index up to a turn's end, which the turn's order can be asked about
pub record HasTurn (trace : List Event) (list : List ListedAccess) (next : ℕ) (turn : Turn) : Type 0 where
  pub within : turn.to ≤ length list
  pub of_trace : turn.order.trace ≡ trace
  pub asked : All (λ access. is_listed turn.order.events access.event ≡ true) (slice_range list next turn.to)

module _ (trace : List Event) (races : List (ℕ × ℕ)) where
  -- the rest are those of these races that come after the given ones
  abbrev pub HasGiven : List (ℕ × ℕ) → Rest → Type 0
  HasGiven given (rests.Kept kept) = (given ≡ []) × (races ≡ map pair_in kept.items)
  HasGiven given (rests.From known turn next) = AreKnown trace known.accesses known.list.items × (races ≡ races_of trace known.list.items) × (given ≡ races_of trace (take next known.list.items)) × IfSome turn (HasTurn trace known.list.items next)
  HasGiven given rests.Ended = given ≡ races

  -- after the given ones this part was given too; or none was left
  abbrev pub IsNext : List (ℕ × ℕ) → Rest → Option (Vec ListedRace Global) → Type 0
  IsNext given rest (Some part) = HasGiven (given ++ map pair_in part.items) rest
  IsNext given rest None = given ≡ races

  -- a list of these races of a trace, of which none was given
  pub record ListsRaces (text : TraceData) (list : RaceList) : Type 0 where
    pub count : list.count ≡ length races
    pub places : list.places ≡ counts_in (places_of_pairs text (map pair_of races))
    pub are_races : All (λ race. Race trace race.0 race.1) races
    pub none_given : HasGiven [] list.rest

-- at most so many parts are still to come
abbrev pub parts_left : Rest → ℕ
parts_left (rests.Kept _) = 1
parts_left (rests.From known turn next) = length known.list.items - next
parts_left rests.Ended = 0
