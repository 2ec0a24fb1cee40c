-- Which variables may have a race, and what the pass that tells it keeps of each.
use Rattle.std.specs.Prelude.{◌≡◌, ℕ, ◌<◌, Bool, false, List, Some, length, slice_index_or}
use Rattle.shb_lines.specs.declared.event.Event.{Event}
use Rattle.shb_lines.specs.events.Race.{Race, variable_at}
use Rattle.shb_stamps.specs.Open.{is_open}
use Rattle.shb_stamps.specs.Screen.{IsScreened}
use Rattle.shb_stamps.specs.declared.screen.Latest.{Latest}

-- a variable that isn't open has no race: no pair of its accesses is one
abbrev pub AreOpen : List Event → List Bool → Type 0
AreOpen trace flags = (x : ℕ) → is_open flags x ≡ false → (i j : ℕ) → variable_at trace j ≡ Some x → ¬ Race trace i j

-- of each variable what is kept before n
pub record AreScreened (trace : List Event) (n size : ℕ) (table : List Latest) : Type 0 where
  pub as_many : length table ≡ size
  pub each : (x : ℕ) (d : Latest) → x < size → IsScreened trace x n (slice_index_or table x d)
