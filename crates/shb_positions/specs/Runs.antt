-- The positions that runs stand for.
use Rattle.std.specs.Prelude.{◌≢◌, ℕ, ◌+◌, ◌^◌, ◌<◌, List, [], ◌∷◌, flat_map}
use Rattle.std.specs.List.{range_with_len}
use Rattle.shb_positions.specs.declared.positions.Run.{Run}

-- so many positions from the first on
abbrev pub run_positions : Run → List ℕ
run_positions run = range_with_len run.first run.len

-- those of each run, one run after the other
abbrev pub positions_in : List Run → List ℕ
positions_in runs = flat_map run_positions runs

-- the position after the run is a number of 32 bits
abbrev pub EndsInRange : Run → Type 0
EndsInRange run = run.first + run.len < 2 ^ 32

-- no run begins where the one before it ends: neighbours are in one run
abbrev pub AreApart : List Run → Type 0
AreApart [] = Unit {0}
AreApart (run ∷ []) = Unit {0}
AreApart (run ∷ next ∷ runs) = (run.first + run.len ≢ next.first) × AreApart (next ∷ runs)

-- the last run, if there is one, doesn't end before this position
abbrev pub LeavesGap : List Run → ℕ → Type 0
LeavesGap [] position = Unit {0}
LeavesGap (run ∷ []) position = run.first + run.len ≢ position
LeavesGap (run ∷ next ∷ runs) position = LeavesGap (next ∷ runs) position
