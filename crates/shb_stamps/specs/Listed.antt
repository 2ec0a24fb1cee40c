-- Listed events, which an order is asked about, and the rows that are kept for them.
use Rattle.std.specs.Prelude.{◌≡◌, ℕ, ◌<◌, ◌==◌, Bool, List, Some, length, slice_index_or, ◌≤◌}
use Rattle.std.specs.List.{list_any}
use Rattle.shb_lines.specs.declared.event.Event.{Event}
use Rattle.shb_lines.specs.events.Events.{thread_at}
use Rattle.shb_lines.specs.events.Order.{BelowPred}
use Rattle.shb_stamps.specs.Stamps.{IsRowFor}
use Rattle.shb_stamps.specs.declared.listed_rows.KeptRows.{KeptRows}

-- whether an event is in the list
abbrev pub is_listed : List ℕ → ℕ → Bool
is_listed events e = list_any (λ k. e == k) events

-- a trace, and events of it
pub record ListedTrace : Type 0 where
  pub trace : List Event
  pub events : List ℕ

-- for each of the first n listed events the row of what is below its predecessor
pub record HasListedRows (trace : List Event) (rows : List (List ℕ)) (events : List ℕ) (n : ℕ) (before : List ℕ) : Type 0 where
  pub as_many : length before ≡ n
  pub each : (i e t : ℕ) → i < n → slice_index_or events i 0 ≡ e → thread_at trace e ≡ Some t → IsRowFor trace rows t (λ k. BelowPred trace k e) (slice_index_or before i 0)

-- what is kept after the first n of the listed events
pub record AreListedRows (trace : List Event) (events : List ℕ) (n : ℕ) (kept : KeptRows) : Type 0 where
  pub few : length kept.rows.list ≤ n
  pub before : HasListedRows trace kept.rows.list events n kept.before.items
