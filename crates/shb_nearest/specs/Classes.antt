-- Classes of accesses, and the newest access of each.
use Rattle.std.specs.Prelude.{◌≡◌, ◌==◌, ◌&&◌, ◌<◌, ◌≤◌, nat_eq, ℕ, Bool, false, cond, List, Option, None, Some, Contains}
use Rattle.std.specs.Bool.{beq}
use Rattle.std.specs.Map.{lookup}
use Rattle.shb_lines.specs.declared.event.Event.{Event}
use Rattle.shb_lines.specs.events.Events.{thread_at, op_at}
use Rattle.shb_lines.specs.events.Order.{BelowPred}
use Rattle.shb_nearest.specs.Found.{access_op, location_in}
use Rattle.shb_nearest.specs.declared.access.Spot.{Spot}
use Rattle.shb_nearest.specs.declared.classes.Class.{Class}

abbrev pub same_class : Class → Class → Bool
same_class a b = nat_eq a.variable b.variable && (nat_eq a.location b.location && (nat_eq a.thread b.thread && beq a.writes b.writes))

-- the newest access of a class, in a table
abbrev pub newest_in : List (Class × ℕ) → Class → Option ℕ
newest_in entries class = lookup (same_class class) entries

-- whether the access is the newest of its class
abbrev pub is_newest_in : List (Class × ℕ) → Class → ℕ → Bool
is_newest_in entries class event = elim (newest_in entries class) [ Some k ↦ k == event | None ↦ false ]

-- an access became the newest of its class
abbrev pub HasPut : List (Class × ℕ) → List (Class × ℕ) → Class → ℕ → Type 0
HasPut old new class event = (c : Class) → newest_in new c ≡ cond (same_class class c) (Some event) (newest_in old c)

-- the table has the last of each class of some accesses, by the event and the class of each
abbrev pub HasLastOf : {A : Type 0} → (A → ℕ) → (A → Class) → List (Class × ℕ) → List A → Type 0
HasLastOf {A} event class newest items = (a : A) → Contains items a → ((b : A) → Contains items b → class b ≡ class a → event b ≤ event a) → newest_in newest (class a) ≡ Some (event a)

-- an access of the class
pub record IsOfClass (trace : List Event) (spots : List Spot) (class : Class) (i : ℕ) : Type 0 where
  pub thread_is : thread_at trace i ≡ Some class.thread
  pub op_is : op_at trace i ≡ Some (access_op class.writes class.variable)
  pub location_is : location_in spots i ≡ Some class.location

-- k is the newest access of the class before n
pub record IsNewestOf (trace : List Event) (spots : List Spot) (n : ℕ) (class : Class) (k : ℕ) : Type 0 where
  pub own : IsOfClass trace spots class k
  pub past : k < n
  pub last : (i : ℕ) → i < n → IsOfClass trace spots class i → i ≤ k

-- k is the newest access of the class before n, and no later one before n by another thread, of its variable, location and kind, is after it
pub record IsLastOf (trace : List Event) (spots : List Spot) (n : ℕ) (class : Class) (k : ℕ) : Type 0 where
  pub newest : IsNewestOf trace spots n class k
  pub none_after : (i : ℕ) → k < i → i < n → op_at trace i ≡ Some (access_op class.writes class.variable) → location_in spots i ≡ Some class.location → BelowPred trace k i → ⊥

-- what the table has of a class is an access of it before n
pub record AreClasses (trace : List Event) (spots : List Spot) (n : ℕ) (entries : List (Class × ℕ)) : Type 0 where
  pub own : (c : Class) (k : ℕ) → newest_in entries c ≡ Some k → IsOfClass trace spots c k × (k < n)
