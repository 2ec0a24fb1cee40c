-- The printed schedules of races, as lists that compute, so that the value of each piece of work is named.
use Rattle.std.specs.Prelude.{◌≡◌, ℕ, Bool, true, ◌||◌, List, [], ◌∷◌, All, flat_map, length, slice_index_or}
use Rattle.shb_lines.specs.declared.event.Event.{Event}
use Rattle.shb_lines.specs.declared.event.Pair.{Pair}
use Rattle.shb_lines.specs.events.Race.{Race}
use Rattle.shb_lines.specs.events.Reach.{numbers_where, is_below_pred}

-- a trace, and the races that a schedule is asked for
pub record Asked : Type 0 where
  pub trace : List Event
  pub races : List Pair

-- each pair is a race
abbrev pub AreRaces : List Event → List Pair → Type 0
AreRaces trace pairs = All (λ p. Race trace p.first p.second) pairs

-- both events of the pair are such that an order can be asked about them
abbrev pub AsksBoth : (ℕ → Bool) → Pair → Type 0
AsksBoth asks p = (asks p.first ≡ true) × (asks p.second ≡ true)

-- the same of each pair
abbrev pub AsksEach : (ℕ → Bool) → List Pair → Type 0
AsksEach asks pairs = All (AsksBoth asks) pairs

-- the events of the pairs
abbrev pub ends_of : List Pair → List ℕ
ends_of pairs = flat_map (λ p. p.first ∷ p.second ∷ []) pairs

-- the positions of the events below the predecessor of either, in trace order
unfoldable pub printed_schedule : List Event → Pair → List ℕ
printed_schedule trace p = numbers_where (λ k. is_below_pred trace k p.first || is_below_pred trace k p.second) (length trace)

-- the schedule of race k
abbrev pub schedule_at : List Event → List Pair → ℕ → List ℕ
schedule_at trace races k = printed_schedule trace (slice_index_or races k (record { first = 0; second = 0 }))
