-- The numbers that name threads, locks and variables are below the counts of names.
use Rattle.std.specs.Prelude.{◌≡◌, ◌≢◌, ℕ, ◌<◌, List, Some, slice_get}
use Rattle.shb_lines.specs.declared.event.Event.{Event}
use Rattle.shb_lines.specs.declared.event.Op.{Op}
use Rattle.shb_lines.specs.declared.event.Op.TheVariants.{Read, Write, Acquire, Release, Fork, Join}
use Rattle.shb_lines.specs.declared.event.Sizes.{Sizes}
use Rattle.shb_lines.specs.events.Race.{variable_at}

-- the operation names a thread, a lock or a variable within the sizes
abbrev pub IsOpWithin : Sizes → Op → Type 0
IsOpWithin sizes (Read x) = x < sizes.variables
IsOpWithin sizes (Write x) = x < sizes.variables
IsOpWithin sizes (Acquire l) = l < sizes.locks
IsOpWithin sizes (Release l) = l < sizes.locks
IsOpWithin sizes (Fork t) = t < sizes.threads
IsOpWithin sizes (Join t) = t < sizes.threads
IsOpWithin sizes _ = Unit {0}

pub record IsEventWithin (sizes : Sizes) (e : Event) : Type 0 where
  pub thread : e.thread < sizes.threads
  pub operation : IsOpWithin sizes e.op

abbrev pub IsWithin : List Event → Sizes → Type 0
IsWithin trace sizes = (k : ℕ) (e : Event) → slice_get trace k ≡ Some e → IsEventWithin sizes e

-- before an access of a variable, each variable with a lower number was accessed
abbrev pub IsNumberedByAccess : List Event → Type 0
IsNumberedByAccess trace = (k x y : ℕ) → variable_at trace k ≡ Some x → y < x → ¬ ((j : ℕ) → j < k → variable_at trace j ≢ Some y)
