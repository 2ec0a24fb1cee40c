-- Threads and operations of events by position.
use Rattle.std.proofs.Common.{◌≡◌, ℕ, ◌<◌, ◌⊎◌, inl, inr, Bool, true, false, List, Option, Some, None, refl, sym, ◌∙◌, ap, arith, subst}
use Rattle.std.specs.Prelude.{slice_get, ◌&&◌, count_by, take}
use Rattle.std.proofs.lemmas.Bool.{eqb-true, eq-eqb, cases_order}
use Rattle.std.proofs.lemmas.Option.{slice_get_cases}
use Rattle.shb_lines.specs.declared.event.Event.{Event}
use Rattle.shb_lines.specs.declared.event.Op.{Op}
use Rattle.shb_lines.specs.declared.event.Op.TheVariants.{Acquire, Release, Fork, Join}
use Rattle.shb_lines.specs.events.Events.{thread_at, op_at}
use Rattle.shb_lines.specs.events.Discipline.{IsDisciplined, MayCome, MayDo, MayFork, is_of, is_join, is_fork, is_acquire, is_release, op_is_acquire, op_is_release, op_is_join, op_is_fork}
use Rattle.shb_lines.proofs.events.Counts.{counted_before}

pub thread_is : (trace : List Event) (k : ℕ) (e : Event) → slice_get trace k ≡ Some e → thread_at trace k ≡ Some e.thread
unfolding thread_at
thread_is trace k e at = rw at refl

pub op_is : (trace : List Event) (k : ℕ) (e : Event) → slice_get trace k ≡ Some e → op_at trace k ≡ Some e.op
unfolding op_at
op_is trace k e at = rw at refl

pub event_of_thread : (trace : List Event) (k t : ℕ) → thread_at trace k ≡ Some t → (e : Event) × (slice_get trace k ≡ Some e) × (e.thread ≡ t)
unfolding thread_at
event_of_thread trace k t h = elim (slice_get_cases trace k).1 [
  | inl c ↦ (c.0, c.2, (let s : Some c.0.thread ≡ Some t = rw c.2 at h in cc))
  | inr c ↦ (let n : ◌≡◌ {A = Option ℕ} None (Some t) = rw c.1 at h in absurd (let f : ⊥ = cc in f))
]

pub event_of_op : (trace : List Event) (k : ℕ) (op : Op) → op_at trace k ≡ Some op → (e : Event) × (slice_get trace k ≡ Some e) × (e.op ≡ op)
unfolding op_at
event_of_op trace k op h = elim (slice_get_cases trace k).1 [
  | inl c ↦ (c.0, c.2, (let s : Some c.0.op ≡ Some op = rw c.2 at h in cc))
  | inr c ↦ (let n : ◌≡◌ {A = Option Op} None (Some op) = rw c.1 at h in absurd (let f : ⊥ = cc in f))
]

-- the thread and the operation that are read at a position are those of the event there
pub same_thread : (trace : List Event) (k t : ℕ) (e : Event) → slice_get trace k ≡ Some e → thread_at trace k ≡ Some t → e.thread ≡ t
same_thread trace k t e at of_thread = let same : Some e.thread ≡ Some t = sym (thread_is trace k e at) ∙ of_thread in cc

pub same_op : (trace : List Event) (k : ℕ) (op : Op) (e : Event) → slice_get trace k ≡ Some e → op_at trace k ≡ Some op → e.op ≡ op
same_op trace k op e at of_op = let same : Some e.op ≡ Some op = sym (op_is trace k e at) ∙ of_op in cc

-- the tests that are counted, by threads and operations
pub is_of_true : (u : ℕ) (e : Event) → e.thread ≡ u → is_of u e ≡ true
unfolding is_of
is_of_true u e h = eq-eqb u e.thread (sym h)

pub is_join_true : (u : ℕ) (e : Event) → e.op ≡ Join u → is_join u e ≡ true
unfolding is_join
is_join_true u e h = ap (op_is_join u) h ∙ eq-eqb u u refl

pub is_fork_true : (u : ℕ) (e : Event) → e.op ≡ Fork u → is_fork u e ≡ true
unfolding is_fork
is_fork_true u e h = ap (op_is_fork u) h ∙ eq-eqb u u refl

pub fork_op : (u : ℕ) (op : Op) → op_is_fork u op ≡ true → op ≡ Fork u
fork_op u (Fork v) h = ap (λ n. Fork n) (sym (eqb-true u v h))
fork_op u _ h = absurd (let f : ⊥ = cc in f)

pub join_op : (u : ℕ) (op : Op) → op_is_join u op ≡ true → op ≡ Join u
join_op u (Join v) h = ap (λ n. Join n) (sym (eqb-true u v h))
join_op u _ h = absurd (let f : ⊥ = cc in f)

acquire_op : (l : ℕ) (op : Op) → op_is_acquire l op ≡ true → op ≡ Acquire l
acquire_op l (Acquire m) h = ap (λ n. Acquire n) (sym (eqb-true l m h))
acquire_op l _ h = absurd (let f : ⊥ = cc in f)

release_op : (l : ℕ) (op : Op) → op_is_release l op ≡ true → op ≡ Release l
release_op l (Release m) h = ap (λ n. Release n) (sym (eqb-true l m h))
release_op l _ h = absurd (let f : ⊥ = cc in f)

pub and_parts : (a b : Bool) → (a && b) ≡ true → (a ≡ true) × (b ≡ true)
and_parts true b h = (refl, h)
and_parts false b h = absurd (let f : ⊥ = cc in f)

pub is_acquire_parts : (who : ℕ → Bool) (l : ℕ) (e : Event) → is_acquire who l e ≡ true → (who e.thread ≡ true) × (e.op ≡ Acquire l)
unfolding is_acquire
is_acquire_parts who l e h = let parts = and_parts (who e.thread) (op_is_acquire l e.op) h in (parts.0, acquire_op l e.op parts.1)

pub is_release_parts : (who : ℕ → Bool) (l : ℕ) (e : Event) → is_release who l e ≡ true → (who e.thread ≡ true) × (e.op ≡ Release l)
unfolding is_release
is_release_parts who l e h = let parts = and_parts (who e.thread) (op_is_release l e.op) h in (parts.0, release_op l e.op parts.1)

-- what a trace's discipline says of the event at a position
pub fork_allowed : (past : List Event) (e : Event) (u : ℕ) → MayCome past e → e.op ≡ Fork u → MayFork past e.thread u
fork_allowed past e u h is = subst (MayDo past e.thread) is h.may_do

pub join_allowed : (past : List Event) (e : Event) (u : ℕ) → MayCome past e → e.op ≡ Join u → u ≡ e.thread → ⊥
join_allowed past e u h is = subst (MayDo past e.thread) is h.may_do

-- the fork of a thread comes before its events
pub fork_earlier : (trace : List Event) → IsDisciplined trace → (u a b : ℕ) → op_at trace a ≡ Some (Fork u) → thread_at trace b ≡ Some u → a < b
fork_earlier trace disciplined u a b forks of_u = go (cases_order a b)
  where
    go : (a ≡ b) ⊎ ((a < b) ⊎ (b < a)) → a < b
    go (inr (inl h)) = h
    go (inl h) =
        let e = event_of_op trace a (Fork u) forks in
        let may = fork_allowed _ e.0 u (disciplined a e.0 e.1) e.2 in
        let same : thread_at trace a ≡ Some u = rw h of_u in
        let own : Some e.0.thread ≡ Some u = sym (thread_is trace a e.0 e.1) ∙ same in
        absurd (may.other (let g : u ≡ e.0.thread = cc in g))
    go (inr (inr h)) =
        let e = event_of_op trace a (Fork u) forks in
        let d = event_of_thread trace b u of_u in
        let may = fork_allowed _ e.0 u (disciplined a e.0 e.1) e.2 in
        let some = counted_before (is_of u) trace b a d.0 d.1 (is_of_true u d.0 d.2) h in
        let none = may.not_started in
        absurd (omega arith)

-- the join of a thread comes after its events
pub join_later : (trace : List Event) → IsDisciplined trace → (u a b : ℕ) → thread_at trace a ≡ Some u → op_at trace b ≡ Some (Join u) → a < b
join_later trace disciplined u a b of_u joins = go (cases_order a b)
  where
    go : (a ≡ b) ⊎ ((a < b) ⊎ (b < a)) → a < b
    go (inr (inl h)) = h
    go (inl h) =
        let e = event_of_op trace b (Join u) joins in
        let same : thread_at trace b ≡ Some u = rw (← h) of_u in
        let own : Some e.0.thread ≡ Some u = sym (thread_is trace b e.0 e.1) ∙ same in
        absurd (join_allowed _ e.0 u (disciplined b e.0 e.1) e.2 (let g : u ≡ e.0.thread = cc in g))
    go (inr (inr h)) =
        let e = event_of_op trace b (Join u) joins in
        let d = event_of_thread trace a u of_u in
        let some = counted_before (is_join u) trace b a e.0 e.1 (is_join_true u e.0 e.2) h in
        let none : count_by (is_join u) (take a trace) ≡ 0 = subst (λ t. count_by (is_join t) (take a trace) ≡ 0) d.2 ((disciplined a d.0 d.1).not_joined) in
        absurd (omega arith)
