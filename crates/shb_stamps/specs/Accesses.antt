-- The accesses of each variable of a trace, in trace order, and the races with each.
use Rattle.std.specs.Prelude.{◌≡◌, ℕ, zero, suc, ◌+◌, ◌<◌, ◌⊎◌, max, Bool, false, ◌==◌, List, Some, None, length, map}
use Rattle.std.specs.Option.{option_map_or}
use Rattle.shb_lines.specs.declared.event.Event.{Event}
use Rattle.shb_lines.specs.events.Race.{variable_at}
use Rattle.shb_lines.specs.events.Reach.{is_race, numbers_where}

-- whether the event at a position accesses x
unfoldable pub accesses_at : List Event → ℕ → ℕ → Bool
accesses_at trace x k = elim (variable_at trace k) [ Some y ↦ y == x | None ↦ false ]

-- the accesses of x, in trace order
abbrev pub accesses_in : List Event → ℕ → List ℕ
accesses_in trace x = numbers_where (accesses_at trace x) (length trace)

-- one more than the greatest number of a variable accessed before position k
unfoldable pub variables_before : List Event → ℕ → ℕ
variables_before trace zero = 0
variables_before trace (suc k) = max (variables_before trace k) (option_map_or (λ x. x + 1) (variable_at trace k) 0)

-- one more than the greatest number of a variable that is accessed
abbrev pub variables_in : List Event → ℕ
variables_in trace = variables_before trace (length trace)

-- the races whose later access is j, by the earlier access
unfoldable pub races_with : List Event → ℕ → List (ℕ × ℕ)
races_with trace j = map (λ i. (i, j)) (numbers_where (λ i. is_race trace i j) j)

-- p stands before q: by the later access, then by the earlier
abbrev pub PairBefore : ℕ × ℕ → ℕ × ℕ → Type 0
PairBefore p q = (p.1 < q.1) ⊎ ((p.1 ≡ q.1) × (p.0 < q.0))
