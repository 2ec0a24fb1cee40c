-- What is below an event doesn't change when events are put after it.
use Rattle.std.proofs.Common.{◌≡◌, ℕ, ◌+◌, ◌<◌, inl, inr, List, ◌++◌, Some, length, arith, length-append, sym, subst, ◌∙◌, ap}
use Rattle.std.specs.Prelude.{◌↔◌, option_and_then, slice_get, count_by}
use Rattle.std.proofs.lemmas.List.{get_or_append_left, take-append-le}
use Rattle.std.proofs.lemmas.Option.{slice_get-get_or, slice_get_within}
use Rattle.shb_lines.specs.declared.event.Event.{Event}
use Rattle.shb_lines.specs.declared.event.Op.{Op}
use Rattle.shb_lines.specs.declared.event.Op.TheVariants.{Read}
use Rattle.shb_lines.specs.events.Discipline.{IsDisciplined, MayCome, is_of, local_time}
use Rattle.shb_lines.specs.events.Events.{thread_at, op_at, variable_of}
use Rattle.shb_lines.specs.events.Order.{HbRule, same_thread, lock_passed, forked, joined, LastWrite, ShbEdge, happens_before, read_from, here, step, ShbBelow, IsPred, in_thread, by_fork, BelowPred}
use Rattle.shb_lines.specs.events.Race.{Conflict, Race, variable_at}
use Rattle.shb_lines.proofs.events.Events.{thread_is}
use Rattle.shb_lines.proofs.events.Reach.{event_at_access}
use Rattle.shb_lines.proofs.events.Schedulable.{below_pred_closed, path_forward, pred_earlier}

-- two traces that have the same first n events
module _ (n : ℕ) (xs ys : List Event) (same : (k : ℕ) → k < n → slice_get xs k ≡ slice_get ys k) where
  thread_same : (k : ℕ) → k < n → thread_at xs k ≡ thread_at ys k
  unfolding thread_at
  thread_same k lt = ap (option_and_then (λ (e : Event). Some e.thread)) (same k lt)

  op_same : (k : ℕ) → k < n → op_at xs k ≡ op_at ys k
  unfolding op_at
  op_same k lt = ap (option_and_then (λ (e : Event). Some e.op)) (same k lt)

  thread_over : (k t : ℕ) → k < n → thread_at xs k ≡ Some t → thread_at ys k ≡ Some t
  thread_over k t lt h = sym (thread_same k lt) ∙ h

  op_over : (k : ℕ) (op : Op) → k < n → op_at xs k ≡ Some op → op_at ys k ≡ Some op
  op_over k op lt h = sym (op_same k lt) ∙ h

  rule_over : (a b : ℕ) → a < n → b < n → HbRule xs a b → HbRule ys a b
  rule_over a b la lb (same_thread t of_a of_b) = same_thread t (thread_over a t la of_a) (thread_over b t lb of_b)
  rule_over a b la lb (lock_passed l releases acquires) = lock_passed l (op_over a _ la releases) (op_over b _ lb acquires)
  rule_over a b la lb (forked u forks of_b) = forked u (op_over a _ la forks) (thread_over b u lb of_b)
  rule_over a b la lb (joined u of_a joins) = joined u (thread_over a u la of_a) (op_over b _ lb joins)

  last_over : (w r : ℕ) → r < n → LastWrite xs w r → LastWrite ys w r
  last_over w r lt last = record {
    variable = last.variable;
    reads = op_over r _ lt last.reads;
    writes = op_over w _ (let before = last.earlier in omega (arith, before, lt)) last.writes;
    earlier = last.earlier;
    latest = λ k low high writes. last.latest k low high (op_same k (omega (arith, high, lt)) ∙ writes);
  }

  edge_over : (a b : ℕ) → b < n → ShbEdge xs a b → ShbEdge ys a b
  edge_over a b lt (happens_before edge) = happens_before (record { earlier = edge.earlier; rule = rule_over a b (let before = edge.earlier in omega (arith, before, lt)) lt edge.rule })
  edge_over a b lt (read_from last) = read_from (last_over a b lt last)

  pub below_over : (a b : ℕ) → b < n → ShbBelow xs a b → ShbBelow ys a b
  below_over a b lt here = here
  below_over a b lt (step {b = m} edge path) = step (edge_over a m (let le = path_forward xs m b path in omega (arith, le, lt)) edge) (below_over m b lt path)

  pred_over : IsDisciplined xs → (p e : ℕ) → e < n → IsPred xs p e → IsPred ys p e
  pred_over disciplined p e lt (in_thread t of_p of_e before none) =
      in_thread t (thread_over p t (omega (arith, before, lt)) of_p) (thread_over e t lt of_e) before (λ k low high of_k. none k low high (thread_same k (omega (arith, high, lt)) ∙ of_k))
  pred_over disciplined p e lt (by_fork t forks of_e none) =
      by_fork t (op_over p _ (let before = pred_earlier xs disciplined p e (by_fork t forks of_e none) in omega (arith, before, lt)) forks) (thread_over e t lt of_e) (λ k low of_k. none k low (thread_same k (omega (arith, low, lt)) ∙ of_k))

  pub below_pred_over : IsDisciplined xs → (a e : ℕ) → e < n → BelowPred xs a e → BelowPred ys a e
  below_pred_over disciplined a e lt below =
      let before = pred_earlier xs disciplined below.0 e below.1 in
      (below.0, pred_over disciplined below.0 e lt below.1, below_over a below.0 (omega (arith, before, lt)) below.2)

  variable_over : (k x : ℕ) → k < n → variable_at xs k ≡ Some x → variable_at ys k ≡ Some x
  variable_over k x lt h = ap (option_and_then variable_of) (sym (op_same k lt)) ∙ h

  conflict_over : (i j : ℕ) → i < n → j < n → Conflict xs i j → Conflict ys i j
  conflict_over i j li lj c = record {
    variable = c.variable;
    first_accesses = variable_over i c.variable li c.first_accesses;
    second_accesses = variable_over j c.variable lj c.second_accesses;
    one_writes = elim c.one_writes [ inl w ↦ inl (op_over i _ li w) | inr w ↦ inr (op_over j _ lj w) ];
    other_thread = λ one. c.other_thread (thread_same i li ∙ (one ∙ sym (thread_same j lj)));
  }

-- a trace, and events after it
module _ (past more : List Event) where
  no_event : Event
  no_event = record { thread = 0; op = Read 0; line = 0 }

  pub front_same : (k : ℕ) → k < length past → slice_get (past ++ more) k ≡ slice_get past k
  front_same k lt =
      let long : k < length (past ++ more) = omega (arith, length-append past more, lt) in
      slice_get-get_or (past ++ more) k no_event long ∙ (ap (λ (e : Event). Some e) (get_or_append_left past more no_event k lt) ∙ sym (slice_get-get_or past k no_event lt))

  back_same : (k : ℕ) → k < length past → slice_get past k ≡ slice_get (past ++ more) k
  back_same k lt = sym (front_same k lt)

  pub thread_longer : (k : ℕ) → k < length past → thread_at (past ++ more) k ≡ thread_at past k
  thread_longer k lt = thread_same (length past) (past ++ more) past front_same k lt

  pub op_longer : (k : ℕ) → k < length past → op_at (past ++ more) k ≡ op_at past k
  op_longer k lt = op_same (length past) (past ++ more) past front_same k lt

  pub time_longer : (t k : ℕ) → k < length past → local_time (past ++ more) t k ≡ local_time past t k
  time_longer t k lt = ap (count_by (is_of t)) (take-append-le (k + 1) past more (omega (arith, lt)))

  pub front_disciplined : IsDisciplined (past ++ more) → IsDisciplined past
  front_disciplined whole k e at =
      let lt = slice_get_within past k e at in
      subst (λ (before : List Event). MayCome before e) (take-append-le k past more (omega (arith, lt))) (whole k e (front_same k lt ∙ at))

  pub below_longer : (a b : ℕ) → b < length past → ShbBelow (past ++ more) a b ↔ ShbBelow past a b
  below_longer a b lt = (below_over (length past) (past ++ more) past front_same a b lt, below_over (length past) past (past ++ more) back_same a b lt)

  pub below_pred_longer : IsDisciplined (past ++ more) → (a e : ℕ) → e < length past → BelowPred (past ++ more) a e ↔ BelowPred past a e
  below_pred_longer whole a e lt = (below_pred_over (length past) (past ++ more) past front_same whole a e lt, below_pred_over (length past) past (past ++ more) back_same (front_disciplined whole) a e lt)

  pub race_longer : IsDisciplined (past ++ more) → (i j : ℕ) → j < length past → Race (past ++ more) i j ↔ Race past i j
  race_longer whole i j lt = (
    (λ race. record {
      conflict = conflict_over (length past) (past ++ more) past front_same i j (let before = race.earlier in omega (arith, before, lt)) lt race.conflict;
      earlier = race.earlier;
      unordered = λ below. race.unordered ((below_pred_longer whole i j lt).1 below);
    }),
    (λ race. record {
      conflict = conflict_over (length past) past (past ++ more) back_same i j (let before = race.earlier in omega (arith, before, lt)) lt race.conflict;
      earlier = race.earlier;
      unordered = λ below. race.unordered ((below_pred_longer whole i j lt).0 below);
    }),
  )

-- a later access that is the same races too
pub later_same_races : (trace : List Event) (i b j : ℕ) → Race trace i j → thread_at trace b ≡ thread_at trace i → op_at trace b ≡ op_at trace i → i < b → b < j → Race trace b j
later_same_races trace i b j race thread operation after before =
    let c = race.conflict in
    let e = event_at_access trace i c.variable c.first_accesses in
    let of_i = thread_is trace i e.0 e.1 in
    record {
      conflict = record {
        variable = c.variable;
        first_accesses = ap (option_and_then variable_of) operation ∙ c.first_accesses;
        second_accesses = c.second_accesses;
        one_writes = elim c.one_writes [ inl w ↦ inl (operation ∙ w) | inr w ↦ inr w ];
        other_thread = λ x. c.other_thread (sym thread ∙ x);
      };
      earlier = before;
      unordered = λ below. race.unordered (below_pred_closed trace i b j (happens_before (record { earlier = after; rule = same_thread e.0.thread of_i (thread ∙ of_i) })) below);
    }
