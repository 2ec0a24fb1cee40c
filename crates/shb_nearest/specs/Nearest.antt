-- Of each place of a trace the race whose later event is the least that has one there, and whose earlier event is the greatest with which that one races there.
use Rattle.std.specs.Prelude.{◌≡◌, ◌⊎◌, ◌↔◌, ◌<◌, ◌≤◌, ℕ, List, AllPairs, Contains}
use Rattle.shb_lines.specs.declared.event.Event.{Event}
use Rattle.shb_lines.specs.events.Race.{Race}

-- one race stands before another: by the later event, then by the earlier
abbrev pub ListedBefore : ℕ × ℕ → ℕ × ℕ → Type 0
ListedBefore p q = (p.1 < q.1) ⊎ ((p.1 ≡ q.1) × (p.0 < q.0))

-- events with locations; two of these are a place
module _ {L : Type 0} (events : List Event) (location : ℕ → L) where
  -- a race whose later event is the least that has a race at its place, and whose earlier event is the greatest with which that one races there
  pub record IsNearest (i j : ℕ) : Type 0 where
    pub race : Race events i j
    pub nearest : (k l : ℕ) → Race events k l → location k ≡ location i → location l ≡ location j → (j < l) ⊎ ((j ≡ l) × (k ≤ i))

  -- the nearest race of each place, by the later event, then by the earlier
  pub record AreNearest (races : List (ℕ × ℕ)) : Type 0 where
    pub all : (i j : ℕ) → Contains races (i, j) ↔ IsNearest i j
    pub in_order : AllPairs ListedBefore races
