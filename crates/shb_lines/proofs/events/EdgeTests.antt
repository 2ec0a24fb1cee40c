-- The tests of happens-before edges, and what they stand for.
use Rattle.std.proofs.Common.{◌≡◌, ℕ, ◌⊎◌, inl, inr, true, List, Some, refl, ap, sym, ◌∙◌}
use Rattle.std.specs.Prelude.{slice_get, ◌==◌, ◌||◌}
use Rattle.std.proofs.lemmas.Bool.{eqb-true, eq-eqb, or_cases, or_left, or_right}
use Rattle.shb_lines.specs.declared.event.Event.{Event}
use Rattle.shb_lines.specs.declared.event.Op.{Op}
use Rattle.shb_lines.specs.declared.event.Op.TheVariants.{Acquire, Release, Fork, Join}
use Rattle.shb_lines.specs.events.Discipline.{op_is_fork, op_is_join}
use Rattle.shb_lines.specs.events.Order.{HbRule, same_thread, lock_passed, forked, joined}
use Rattle.shb_lines.specs.events.Tests.{passes_lock, is_hb_rule}
use Rattle.shb_lines.proofs.events.Events.{thread_is, op_is, event_of_thread, event_of_op, fork_op, join_op}

passes_lock_true : (a b : Op) → passes_lock a b ≡ true → (l : ℕ) × (a ≡ Release l) × (b ≡ Acquire l)
passes_lock_true (Release l) (Acquire m) h = (l, refl, ap (λ n. Acquire n) (sym (eqb-true l m h)))
passes_lock_true _ _ h = absurd (let f : ⊥ = cc in f)

pub rule_from_test : (trace : List Event) (a b : ℕ) (e d : Event) → slice_get trace a ≡ Some e → slice_get trace b ≡ Some d → is_hb_rule e d ≡ true → HbRule trace a b
rule_from_test trace a b e d at_a at_b h = first (or_cases _ _ h)
  where
    last : (op_is_fork d.thread e.op ≡ true) ⊎ (op_is_join e.thread d.op ≡ true) → HbRule trace a b
    last (inl g) = forked d.thread (op_is trace a e at_a ∙ ap (λ o. Some o) (fork_op d.thread e.op g)) (thread_is trace b d at_b)
    last (inr g) = joined e.thread (thread_is trace a e at_a) (op_is trace b d at_b ∙ ap (λ o. Some o) (join_op e.thread d.op g))

    second : (passes_lock e.op d.op ≡ true) ⊎ ((op_is_fork d.thread e.op || op_is_join e.thread d.op) ≡ true) → HbRule trace a b
    second (inl g) = let l = passes_lock_true e.op d.op g in lock_passed l.0 (op_is trace a e at_a ∙ ap (λ o. Some o) l.1) (op_is trace b d at_b ∙ ap (λ o. Some o) l.2)
    second (inr g) = last (or_cases _ _ g)

    first : ((e.thread == d.thread) ≡ true) ⊎ ((passes_lock e.op d.op || (op_is_fork d.thread e.op || op_is_join e.thread d.op)) ≡ true) → HbRule trace a b
    first (inl g) = same_thread e.thread (thread_is trace a e at_a) (thread_is trace b d at_b ∙ ap (λ t. Some t) (sym (eqb-true e.thread d.thread g)))
    first (inr g) = second (or_cases _ _ g)

passes_lock_is : (a b : Op) (l : ℕ) → a ≡ Release l → b ≡ Acquire l → passes_lock a b ≡ true
passes_lock_is a b l ha hb = rw (ha, hb) (eq-eqb l l refl)

pub test_from_rule : (trace : List Event) (a b : ℕ) (e d : Event) → slice_get trace a ≡ Some e → slice_get trace b ≡ Some d → HbRule trace a b → is_hb_rule e d ≡ true
test_from_rule trace a b e d at_a at_b (same_thread t of_a of_b) =
    let x : Some e.thread ≡ Some t = sym (thread_is trace a e at_a) ∙ of_a in
    let y : Some d.thread ≡ Some t = sym (thread_is trace b d at_b) ∙ of_b in
    or_left _ (passes_lock e.op d.op || (op_is_fork d.thread e.op || op_is_join e.thread d.op)) (eq-eqb e.thread d.thread (let g : e.thread ≡ d.thread = cc in g))
test_from_rule trace a b e d at_a at_b (lock_passed l op_a op_b) =
    let x : Some e.op ≡ Some (Release l) = sym (op_is trace a e at_a) ∙ op_a in
    let y : Some d.op ≡ Some (Acquire l) = sym (op_is trace b d at_b) ∙ op_b in
    or_right (e.thread == d.thread) _ (or_left _ (op_is_fork d.thread e.op || op_is_join e.thread d.op) (passes_lock_is e.op d.op l (let g : e.op ≡ Release l = cc in g) (let g : d.op ≡ Acquire l = cc in g)))
test_from_rule trace a b e d at_a at_b (forked u op_a of_b) =
    let x : Some e.op ≡ Some (Fork u) = sym (op_is trace a e at_a) ∙ op_a in
    let y : Some d.thread ≡ Some u = sym (thread_is trace b d at_b) ∙ of_b in
    let p : e.op ≡ Fork u = cc in
    let q : d.thread ≡ u = cc in
    or_right (e.thread == d.thread) _ (or_right (passes_lock e.op d.op) _ (or_left _ (op_is_join e.thread d.op) (let g : op_is_fork d.thread e.op ≡ true = rw p (eq-eqb d.thread u q) in g)))
test_from_rule trace a b e d at_a at_b (joined u of_a op_b) =
    let x : Some e.thread ≡ Some u = sym (thread_is trace a e at_a) ∙ of_a in
    let y : Some d.op ≡ Some (Join u) = sym (op_is trace b d at_b) ∙ op_b in
    let p : d.op ≡ Join u = cc in
    let q : e.thread ≡ u = cc in
    or_right (e.thread == d.thread) _ (or_right (passes_lock e.op d.op) _ (or_right (op_is_fork d.thread e.op) _ (let g : op_is_join e.thread d.op ≡ true = rw p (eq-eqb e.thread u q) in g)))

-- the ends of a rule are events
pub rule_ends : (trace : List Event) (a b : ℕ) → HbRule trace a b → ((e : Event) × (slice_get trace a ≡ Some e)) × ((d : Event) × (slice_get trace b ≡ Some d))
rule_ends trace a b (same_thread t of_a of_b) = let x = event_of_thread trace a t of_a in let y = event_of_thread trace b t of_b in ((x.0, x.1), (y.0, y.1))
rule_ends trace a b (lock_passed l op_a op_b) = let x = event_of_op trace a _ op_a in let y = event_of_op trace b _ op_b in ((x.0, x.1), (y.0, y.1))
rule_ends trace a b (forked u op_a of_b) = let x = event_of_op trace a _ op_a in let y = event_of_thread trace b u of_b in ((x.0, x.1), (y.0, y.1))
rule_ends trace a b (joined u of_a op_b) = let x = event_of_thread trace a u of_a in let y = event_of_op trace b _ op_b in ((x.0, x.1), (y.0, y.1))
