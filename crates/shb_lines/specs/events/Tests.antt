-- Bool tests of single events and of pairs of events: those that the functions compute and those that proofs and the tests of Reach.antt decide relations with. The contracts of the crates above speak of the relations.
use Rattle.std.specs.Prelude.{◌==◌, ℕ, Bool, true, false, not, ◌&&◌, ◌||◌, Option, Some}
use Rattle.shb_lines.specs.events.Events.{variable_of}
use Rattle.shb_lines.specs.events.Discipline.{op_is_fork, op_is_join}
use Rattle.shb_lines.specs.declared.event.Event.{Event}
use Rattle.shb_lines.specs.declared.event.Op.{Op}
use Rattle.shb_lines.specs.declared.event.Op.TheVariants.{Write, Acquire, Release}

-- whether the first operation releases the lock that the second acquires
abbrev pub passes_lock : Op → Op → Bool
passes_lock (Release l) (Acquire m) = l == m
passes_lock _ _ = false

-- whether an earlier event e happens before a later event d by an edge
abbrev pub is_hb_rule : Event → Event → Bool
is_hb_rule e d = (e.thread == d.thread) || (passes_lock e.op d.op || (op_is_fork d.thread e.op || op_is_join e.thread d.op))

-- whether the operation writes the variable
abbrev pub writes_variable : Op → ℕ → Bool
writes_variable (Write y) x = y == x
writes_variable _ x = false

abbrev pub is_write : Op → Bool
is_write (Write y) = true
is_write _ = false

abbrev pub same_variable : Option ℕ → Option ℕ → Bool
same_variable (Some x) (Some y) = x == y
same_variable _ _ = false

-- whether two operations access one variable, and at least one of them writes it
abbrev pub is_conflict_of : Op → Op → Bool
is_conflict_of o p = same_variable (variable_of o) (variable_of p) && (is_write o || is_write p)

-- whether two events conflict
abbrev pub is_conflict : Event → Event → Bool
is_conflict e d = is_conflict_of e.op d.op && not (e.thread == d.thread)
