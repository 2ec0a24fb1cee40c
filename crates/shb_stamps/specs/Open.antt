-- The accesses that an order is asked about.
use Rattle.std.specs.Prelude.{ℕ, Bool, true, false, List, slice_index_or}
use Rattle.std.specs.Option.{option_map_or}
use Rattle.shb_lines.specs.declared.event.Event.{Event}
use Rattle.shb_lines.specs.events.Race.{variable_at}

-- whether a variable is open by these flags: it is unless its flag is false
abbrev pub is_open : List Bool → ℕ → Bool
is_open flags x = slice_index_or flags x true

-- whether the event at a position accesses a variable that is open by these flags
abbrev pub accesses_open : List Bool → List Event → ℕ → Bool
accesses_open flags trace e = option_map_or (is_open flags) (variable_at trace e) false

-- a trace, and a flag for each variable
pub record OpenTrace : Type 0 where
  pub trace : List Event
  pub flags : List Bool
