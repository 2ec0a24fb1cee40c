-- Conflicts, races and their list.
use Rattle.std.specs.Prelude.{◌≡◌, ◌≢◌, ℕ, ◌<◌, ◌⊎◌, ◌↔◌, List, Option, Some, option_and_then, Contains, AllPairs}
use Rattle.shb_lines.specs.declared.event.Event.{Event}
use Rattle.shb_lines.specs.declared.event.Pair.{Pair}
use Rattle.shb_lines.specs.declared.event.Op.TheVariants.{Write}
use Rattle.shb_lines.specs.events.Events.{thread_at, op_at, variable_of}
use Rattle.shb_lines.specs.events.Order.{BelowPred}

-- the two positions of a pair
abbrev pub ends : Pair → ℕ × ℕ
ends pair = (pair.first, pair.second)

-- the variable that the event at a position accesses
abbrev pub variable_at : List Event → ℕ → Option ℕ
variable_at trace k = option_and_then variable_of (op_at trace k)

-- two accesses of one variable, by different threads, at least one a write
pub record Conflict (trace : List Event) (i j : ℕ) : Type 0 where
  pub variable : ℕ
  pub first_accesses : variable_at trace i ≡ Some variable
  pub second_accesses : variable_at trace j ≡ Some variable
  pub one_writes : (op_at trace i ≡ Some (Write variable)) ⊎ (op_at trace j ≡ Some (Write variable))
  pub other_thread : thread_at trace i ≢ thread_at trace j

-- a conflicting pair whose earlier event is not SHB-below the predecessor of its later one
pub record Race (trace : List Event) (i j : ℕ) : Type 0 where
  pub conflict : Conflict trace i j
  pub earlier : i < j
  pub unordered : ¬ BelowPred trace i j

-- f is the first position at which the variable x is accessed
pub record FirstAccess (trace : List Event) (x f : ℕ) : Type 0 where
  pub accesses : variable_at trace f ≡ Some x
  pub first : (k : ℕ) → k < f → variable_at trace k ≢ Some x

-- the order of keys: first access of the variable, later access, earlier access
abbrev pub KeyBefore : ℕ × ℕ × ℕ → ℕ × ℕ × ℕ → Type 0
KeyBefore p q = (p.0 < q.0) ⊎ ((p.0 ≡ q.0) × ((p.1 < q.1) ⊎ ((p.1 ≡ q.1) × (p.2 < q.2))))

-- one race stands before another
abbrev pub RaceBefore : List Event → ℕ × ℕ → ℕ × ℕ → Type 0
RaceBefore trace p q = (x y f g : ℕ) → variable_at trace p.1 ≡ Some x → variable_at trace q.1 ≡ Some y → FirstAccess trace x f → FirstAccess trace y g → KeyBefore (f, p.1, p.0) (g, q.1, q.0)

-- all races, each once, by the first access of the variable, then the later access, then the earlier
pub record IsRaceList (trace : List Event) (races : List (ℕ × ℕ)) : Type 0 where
  pub all : (i j : ℕ) → Contains races (i, j) ↔ Race trace i j
  pub in_order : AllPairs (RaceBefore trace) races
