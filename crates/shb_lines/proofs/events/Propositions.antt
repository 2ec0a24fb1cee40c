-- Of each of these there is at most one proof, so a struct can keep it as a ghost field.
use Rattle.std.specs.Prelude.{ℕ, List}
use Rattle.std.specs.Coded.{le_prop}
use Rattle.std.proofs.Math.Nat.{ℕ_set}
use Rattle.shb_lines.specs.declared.event.Event.{Event}
use Rattle.shb_lines.specs.declared.event.Op.{Op}
use Rattle.shb_lines.specs.declared.event.Op.TheVariants.{Read, Write, Acquire, Release, Fork, Join}
use Rattle.shb_lines.specs.declared.event.Sizes.{Sizes}
use Rattle.shb_lines.specs.events.Discipline.{IsDisciplined, MayCome, MayDo}
use Rattle.shb_lines.specs.events.Sizes.{IsEventWithin, IsNumberedByAccess, IsOpWithin, IsWithin}

MayDo-prop : (past : List Event) (t : ℕ) (op : Op) → IsProp (MayDo past t op)
MayDo-prop past t (Acquire l) = hlevel ℕ_set
MayDo-prop past t (Release l) = hlevel le_prop
MayDo-prop past t (Fork u) = hlevel ℕ_set
MayDo-prop past t (Join u) = hlevel ℕ_set
MayDo-prop past t _ = hlevel ℕ_set

MayCome-prop : (past : List Event) (e : Event) → IsProp (MayCome past e)
MayCome-prop past e = hlevel (ℕ_set, MayDo-prop)

pub IsDisciplined-prop : (trace : List Event) → IsProp (IsDisciplined trace)
IsDisciplined-prop trace = hlevel (MayCome-prop)

IsOpWithin-prop : (sizes : Sizes) (op : Op) → IsProp (IsOpWithin sizes op)
IsOpWithin-prop sizes (Read x) = hlevel le_prop
IsOpWithin-prop sizes (Write x) = hlevel le_prop
IsOpWithin-prop sizes (Acquire l) = hlevel le_prop
IsOpWithin-prop sizes (Release l) = hlevel le_prop
IsOpWithin-prop sizes (Fork t) = hlevel le_prop
IsOpWithin-prop sizes (Join t) = hlevel le_prop
IsOpWithin-prop sizes _ = hlevel le_prop

IsEventWithin-prop : (sizes : Sizes) (e : Event) → IsProp (IsEventWithin sizes e)
IsEventWithin-prop sizes e = hlevel (le_prop, IsOpWithin-prop)

pub IsWithin-prop : (trace : List Event) (sizes : Sizes) → IsProp (IsWithin trace sizes)
IsWithin-prop trace sizes = hlevel (IsEventWithin-prop)

pub IsNumberedByAccess-prop : (trace : List Event) → IsProp (IsNumberedByAccess trace)
IsNumberedByAccess-prop trace = hlevel (le_prop)
