-- Which variables are shared, and what a pass over a trace knows of that after its first n events.
use Rattle.std.specs.Prelude.{◌≡◌, ◌≢◌, ℕ, ◌<◌, ◌↔◌, Bool, true, false, List, Some, IsTrue, length, slice_index_or}
use Rattle.shb_lines.specs.declared.event.Event.{Event}
use Rattle.shb_lines.specs.events.Events.{thread_at}
use Rattle.shb_lines.specs.events.Race.{variable_at}
use Rattle.shb_links.specs.declared.sharing.Owner.{Owner}
use Rattle.shb_links.specs.declared.sharing.Owner.TheVariants.{Nobody, One, Several}

-- two events of different threads access x
pub record IsShared (trace : List Event) (x : ℕ) : Type 0 where
  pub first : ℕ
  pub second : ℕ
  pub first_accesses : variable_at trace first ≡ Some x
  pub second_accesses : variable_at trace second ≡ Some x
  pub other_thread : thread_at trace first ≢ thread_at trace second

-- of the first n events some access x, all of thread t
pub record IsSole (trace : List Event) (x n t : ℕ) : Type 0 where
  pub access : ℕ
  pub accesses : variable_at trace access ≡ Some x
  pub of_thread : thread_at trace access ≡ Some t
  pub all : (k : ℕ) → k < n → variable_at trace k ≡ Some x → thread_at trace k ≡ Some t

-- which threads of the first n events access x
abbrev pub IsOwner : List Event → ℕ → ℕ → Owner → Type 0
IsOwner trace x n Nobody = (k : ℕ) → k < n → variable_at trace k ≢ Some x
IsOwner trace x n (One t) = IsSole trace x n t
IsOwner trace x n Several = IsShared trace x

-- the same of each variable
pub record AreOwners (trace : List Event) (n size : ℕ) (owners : List Owner) : Type 0 where
  pub as_many : length owners ≡ size
  pub each : (x : ℕ) (d : Owner) → x < size → IsOwner trace x n (slice_index_or owners x d)

abbrev pub is_several : Owner → Bool
is_several Several = true
is_several _ = false

-- the flags of the shared variables are true, and no others
pub record HasShared (trace : List Event) (flags : List Bool) : Type 0 where
  pub each : (x : ℕ) → IsTrue (slice_index_or flags x false) ↔ IsShared trace x
