-- Races in the order of the race list.
use Rattle.std.specs.Prelude.{ℕ}
use Rattle.shb_lines.specs.declared.event.Pair.{Pair}
use Rattle.shb_lists.specs.declared.listed.ListedRace.{ListedRace}

-- a race of x by its two events
abbrev pub race_of : ℕ → ℕ → ℕ → ListedRace
race_of x second first = record { variable = x; second = second; first = first }

-- the race as a pair
abbrev pub race_in : ListedRace → Pair
race_in race = record { first = race.first; second = race.second }

-- the race as a pair of positions
abbrev pub pair_in : ListedRace → ℕ × ℕ
pair_in race = (race.first, race.second)
