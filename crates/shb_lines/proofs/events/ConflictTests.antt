-- The test of a conflict.
use Rattle.std.proofs.lemmas.Grind.{common_steps}
use Rattle.std.proofs.Common.{◌≡◌, ℕ, true, List, Option, Some, refl, sym, ap, arith}
use Rattle.std.specs.Prelude.{slice_get, ◌==◌, not, option_and_then}
use Rattle.std.proofs.lemmas.Bool.{and_from, eqb-true, eq-eqb, false_from_ne_true, not-true, not_from_false, or_cases, or_left, or_right}
use Rattle.shb_lines.specs.declared.event.Event.{Event}
use Rattle.shb_lines.specs.declared.event.Op.{Op}
use Rattle.shb_lines.specs.declared.event.Op.TheVariants.{Write}
use Rattle.shb_lines.specs.events.Events.{op_at, thread_at, variable_of}
use Rattle.shb_lines.specs.events.Race.{Conflict, variable_at}
use Rattle.shb_lines.specs.events.Tests.{is_conflict, is_conflict_of, is_write, same_variable}
use Rattle.shb_lines.proofs.events.Events.{thread_is, op_is, and_parts}

variable_is : (trace : List Event) (k : ℕ) (op : Op) → op_at trace k ≡ Some op → variable_at trace k ≡ variable_of op
variable_is trace k op at = ap (λ (o : Option Op). option_and_then variable_of o) at

same_variable_true : (o p : Option ℕ) → same_variable o p ≡ true → (x : ℕ) × (o ≡ Some x) × (p ≡ Some x)
same_variable_true (Some x) (Some y) h = (x, refl, ap (λ n. Some n) (sym (eqb-true x y h)))
same_variable_true _ _ h = absurd (let f : ⊥ = cc in f)

same_variable_is : (o p : Option ℕ) (x : ℕ) → o ≡ Some x → p ≡ Some x → same_variable o p ≡ true
same_variable_is o p x ho hp = rw (ho, hp) (eq-eqb x x refl)

-- a write of the variable that is accessed
write_of : (o : Op) (x : ℕ) → is_write o ≡ true → variable_of o ≡ Some x → o ≡ Write x
write_of (Write y) x h is = ap (λ n. Write n) (let g : y ≡ x = cc in g)
write_of _ x h is = absurd (let f : ⊥ = cc in f)

is_write_of : (o : Op) (x : ℕ) → o ≡ Write x → is_write o ≡ true
is_write_of o x h = rw h refl

-- the test of the operations and the threads at two positions
pub conflict_from_parts : (trace : List Event) (i j : ℕ) (o p : Op) (t u : ℕ) → op_at trace i ≡ Some o → op_at trace j ≡ Some p → thread_at trace i ≡ Some t → thread_at trace j ≡ Some u → is_conflict_of o p ≡ true → not (t == u) ≡ true → Conflict trace i j
conflict_from_parts trace i j o p t u op_i op_j thread_i thread_j h threads = grind (arith, common_steps, variable_is, or_cases, write_of, eq-eqb, not-true, and_parts, same_variable_true)

pub parts_from_conflict : (trace : List Event) (i j : ℕ) (o p : Op) (t u : ℕ) → op_at trace i ≡ Some o → op_at trace j ≡ Some p → thread_at trace i ≡ Some t → thread_at trace j ≡ Some u → Conflict trace i j → (is_conflict_of o p ≡ true) × (not (t == u) ≡ true)
parts_from_conflict trace i j o p t u op_i op_j thread_i thread_j h = grind (arith, common_steps, and_from, same_variable_is, variable_is, not_from_false, false_from_ne_true, or_left, is_write_of, or_right, eqb-true)

-- the test of two events
pub conflict_from_test : (trace : List Event) (i j : ℕ) (e d : Event) → slice_get trace i ≡ Some e → slice_get trace j ≡ Some d → is_conflict e d ≡ true → Conflict trace i j
conflict_from_test trace i j e d at_i at_j h = grind (arith, common_steps, and_parts, conflict_from_parts, op_is, thread_is)

pub test_from_conflict : (trace : List Event) (i j : ℕ) (e d : Event) → slice_get trace i ≡ Some e → slice_get trace j ≡ Some d → Conflict trace i j → is_conflict e d ≡ true
test_from_conflict trace i j e d at_i at_j h = grind (arith, common_steps, parts_from_conflict, op_is, thread_is, and_from)
