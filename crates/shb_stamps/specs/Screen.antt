-- What is kept of a variable so that most accesses are known to race with none before them.
use Rattle.std.specs.Prelude.{◌≡◌, ◌≢◌, ◌==◌, ℕ, ◌<◌, ◌⊎◌, Bool, false, List, Some}
use Rattle.shb_lines.specs.declared.event.Event.{Event}
use Rattle.shb_lines.specs.declared.event.Op.TheVariants.{Write}
use Rattle.shb_lines.specs.events.Discipline.{local_time}
use Rattle.shb_lines.specs.events.Events.{thread_at, op_at}
use Rattle.shb_lines.specs.events.Order.{BelowPred, ShbBelow}
use Rattle.shb_lines.specs.events.Race.{Race, variable_at}
use Rattle.shb_stamps.specs.declared.screen.Epoch.{Epoch}
use Rattle.shb_stamps.specs.declared.screen.Latest.{Latest}

-- whether the event of an epoch isn't known any more: its time is that of no event
abbrev pub is_unknown : Epoch → Bool
is_unknown epoch = epoch.time == 4294967295

-- the epoch is that of the event at a position
pub record IsEpoch (trace : List Event) (event : ℕ) (epoch : Epoch) : Type 0 where
  pub thread_is : thread_at trace event ≡ Some epoch.thread
  pub time_is : epoch.time ≡ local_time trace epoch.thread event

-- the epoch is that of an event before n which k is SHB-below
pub record IsMarked (trace : List Event) (n : ℕ) (epoch : Epoch) (k : ℕ) : Type 0 where
  pub event : ℕ
  pub past : event < n
  pub is : IsEpoch trace event epoch
  pub ordered : ShbBelow trace k event

-- no access of x before n races with one before it; the write stands for all writes of x before n, and write and read for all accesses, unless the read isn't known
pub record HasLatest (trace : List Event) (x n : ℕ) (latest : Latest) : Type 0 where
  pub free : (i j : ℕ) → j < n → variable_at trace j ≡ Some x → ¬ Race trace i j
  pub writes : (k : ℕ) → k < n → op_at trace k ≡ Some (Write x) → IsMarked trace n latest.write k
  pub accesses : is_unknown latest.read ≡ false → (k : ℕ) → k < n → variable_at trace k ≡ Some x → IsMarked trace n latest.write k ⊎ IsMarked trace n latest.read k

-- the same, unless the write isn't known
abbrev pub IsScreened : List Event → ℕ → ℕ → Latest → Type 0
IsScreened trace x n latest = is_unknown latest.write ≡ false → HasLatest trace x n latest

-- the epoch is known, and what it stands for before n is SHB-below the predecessor of n
abbrev pub IsPast : List Event → ℕ → Epoch → Type 0
IsPast trace n epoch = (is_unknown epoch ≡ false) × ((k : ℕ) → IsMarked trace n epoch k → BelowPred trace k n)

-- where write and read are known, each access of x before n is SHB-below the predecessor of n
abbrev pub IsAfterAll : List Event → ℕ → ℕ → Latest → Type 0
IsAfterAll trace x n latest = is_unknown latest.write ≡ false → is_unknown latest.read ≡ false → (k : ℕ) → k < n → variable_at trace k ≡ Some x → BelowPred trace k n

-- event n accesses x, is that of this epoch, and writes if it is said to, else reads
pub record IsAccess (trace : List Event) (n x : ℕ) (own : Epoch) (writes : Bool) : Type 0 where
  pub own_is : IsEpoch trace n own
  pub accesses : variable_at trace n ≡ Some x
  pub reads : writes ≡ false → op_at trace n ≢ Some (Write x)
