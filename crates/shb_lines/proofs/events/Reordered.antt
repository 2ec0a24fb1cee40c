-- A list of positions in trace order that is closed under happens-before edges is disciplined.
use Rattle.std.proofs.Common.{◌≡◌, ℕ, zero, suc, ◌<◌, ◌≤◌, ◌⊎◌, inl, inr, Bool, true, List, [], ◌∷◌, Some, length, get_or, take, refl, arith, ap, sym, ◌∙◌}
use Rattle.std.specs.Prelude.{slice_get, count_by, Contains}
use Rattle.std.specs.List.Sorted.{IsStrictlyIncreasing}
use Rattle.std.proofs.lemmas.Bool.{cases_lt, eqb-true}
use Rattle.std.proofs.lemmas.Option.{slice_get_within, slice_get-get_or, slice_get_cases}
use Rattle.shb_lines.specs.declared.event.Event.{Event}
use Rattle.shb_lines.specs.declared.event.Op.{Op}
use Rattle.shb_lines.specs.declared.event.Op.TheVariants.{Acquire, Release, Fork, Join}
use Rattle.shb_lines.specs.events.Events.{thread_at, events_at}
use Rattle.shb_lines.specs.events.Discipline.{IsDisciplined, MayCome, MayDo, other_than, only, is_of, is_fork, is_join, is_acquire, is_release}
use Rattle.shb_lines.specs.events.Order.{HbEdge, same_thread, lock_passed}
use Rattle.shb_lines.proofs.events.Counts.{counts_le, counts_ge}
use Rattle.shb_lines.proofs.events.Events.{thread_is, op_is, is_acquire_parts, is_release_parts}
use Rattle.shb_lines.proofs.events.Locks.{DisciplinedBelow, releases_le}
use Rattle.shb_lines.proofs.events.Indices.{contains_at}

pub event_in_range : (trace : List Event) (k : ℕ) → k < length trace → (e : Event) × (slice_get trace k ≡ Some e)
event_in_range trace k within = elim (slice_get_cases trace k).1 [ inl c ↦ (c.0, c.2) | inr c ↦ (let past = c.0 in absurd (omega arith)) ]

in_range_rest : (trace : List Event) (x : ℕ) (s : List ℕ) → ((a : ℕ) → Contains (x ∷ s) a → a < length trace) → (a : ℕ) → Contains s a → a < length trace
in_range_rest trace x s in_range a c = in_range a (suc c.0, (let lt = c.1 in omega arith), c.2)

in_range_first : (trace : List Event) (x : ℕ) (s : List ℕ) → ((a : ℕ) → Contains (x ∷ s) a → a < length trace) → x < length trace
in_range_first trace x s in_range = in_range x (contains_at (x ∷ s) 0 x refl)

-- the event at an index is that of the trace at the position there
pub event_at_index : (trace : List Event) (s : List ℕ) → ((a : ℕ) → Contains s a → a < length trace) → (p a : ℕ) → slice_get s p ≡ Some a → (e : Event) × (slice_get (events_at trace s) p ≡ Some e) × (slice_get trace a ≡ Some e)
event_at_index trace [] in_range p a h = absurd (let f : ⊥ = cc in f)
event_at_index trace (x ∷ s) in_range zero a h =
    let first = event_in_range trace x (in_range_first trace x s in_range) in
    let is : x ≡ a = cc in
    (first.0, rw first.1 refl, rw (← is) first.1)
event_at_index trace (x ∷ s) in_range (suc q) a h =
    let first = event_in_range trace x (in_range_first trace x s in_range) in
    let rest = event_at_index trace s (in_range_rest trace x s in_range) q a h in
    (rest.0, rw first.1 rest.1, rest.2)

pub length_events : (trace : List Event) (s : List ℕ) → ((a : ℕ) → Contains s a → a < length trace) → length (events_at trace s) ≡ length s
length_events trace [] in_range = refl
length_events trace (x ∷ s) in_range =
    let first = event_in_range trace x (in_range_first trace x s in_range) in
    rw first.1 (ap suc (length_events trace s (in_range_rest trace x s in_range)))

module _ (trace : List Event) (disciplined : IsDisciplined trace) (s : List ℕ) (rising : IsStrictlyIncreasing s) (in_range : (a : ℕ) → Contains s a → a < length trace) (closed : (a b : ℕ) → HbEdge trace a b → Contains s b → Contains s a) where
  count_le : (f : Event → Bool) (q b : ℕ) → slice_get s q ≡ Some b → count_by f (take q (events_at trace s)) ≤ count_by f (take b trace)
  count_le f q b at_q = counts_le trace (events_at trace s) s rising (event_at_index trace s in_range) f q b at_q

  count_ge : (f : Event → Bool) (q b : ℕ) → slice_get s q ≡ Some b → ((k : ℕ) (e : Event) → k < b → slice_get trace k ≡ Some e → f e ≡ true → Contains s k) → count_by f (take b trace) ≤ count_by f (take q (events_at trace s))
  count_ge f q b at_q chosen = counts_ge trace (events_at trace s) s rising (event_at_index trace s in_range) f q b at_q chosen

  none_too : (f : Event → Bool) (q b : ℕ) → slice_get s q ≡ Some b → count_by f (take b trace) ≡ 0 → count_by f (take q (events_at trace s)) ≡ 0
  none_too f q b at_q none = let le = count_le f q b at_q in omega arith

  -- what thread t did with a lock before its event at b is kept
  own_kept : (t b k : ℕ) (e : Event) → thread_at trace b ≡ Some t → Contains s b → k < b → slice_get trace k ≡ Some e → only t e.thread ≡ true → Contains s k
  own_kept t b k e of_t member lt at_k is =
      let same : t ≡ e.thread = eqb-true t e.thread is in
      closed k b (record { earlier = lt; rule = same_thread t (thread_is trace k e at_k ∙ ap (λ n. Some n) (sym same)) of_t }) member

  may_do : (q b : ℕ) (e : Event) → slice_get s q ≡ Some b → slice_get trace b ≡ Some e → DisciplinedBelow (events_at trace s) q → (op : Op) → e.op ≡ op → MayDo (take b trace) e.thread op → MayDo (take q (events_at trace s)) e.thread op
  may_do q b e at_q at_b below (Acquire l) is may =
      let member = contains_at s q b at_q in
      let released = count_ge (is_release (other_than e.thread) l) q b at_q (λ k d lt at_k passes. closed k b (record { earlier = lt; rule = lock_passed l (op_is trace k d at_k ∙ ap (λ o. Some o) (is_release_parts (other_than e.thread) l d passes).1) (op_is trace b e at_b ∙ ap (λ o. Some o) is) }) member) in
      let acquired = count_le (is_acquire (other_than e.thread) l) q b at_q in
      let fewer = count_le (is_release (other_than e.thread) l) q b at_q in
      let held = releases_le (events_at trace s) l q below (other_than e.thread) in
      omega (arith, released, acquired, fewer, held, may)
  may_do q b e at_q at_b below (Release l) is may =
      let member = contains_at s q b at_q in
      let of_t = thread_is trace b e at_b in
      let fewer = count_le (is_release (only e.thread) l) q b at_q in
      let all = count_ge (is_acquire (only e.thread) l) q b at_q (λ k d lt at_k passes. own_kept e.thread b k d of_t member lt at_k (is_acquire_parts (only e.thread) l d passes).0) in
      omega (arith, fewer, all, may)
  may_do q b e at_q at_b below (Fork u) is may = record {
    other = may.other;
    not_started = none_too (is_of u) q b at_q may.not_started;
    not_forked = none_too (is_fork u) q b at_q may.not_forked;
    not_joined = none_too (is_join u) q b at_q may.not_joined;
  }
  may_do q b e at_q at_b below (Join u) is may = may
  may_do q b e at_q at_b below _ is may = tt

  may_come : (q b : ℕ) (e : Event) → slice_get s q ≡ Some b → slice_get trace b ≡ Some e → DisciplinedBelow (events_at trace s) q → MayCome (take q (events_at trace s)) e
  may_come q b e at_q at_b below =
      let come = disciplined b e at_b in
      record {
        not_joined = none_too (is_join e.thread) q b at_q come.not_joined;
        may_do = may_do q b e at_q at_b below e.op refl come.may_do;
      }

  index_of_event : (q : ℕ) (e : Event) → slice_get (events_at trace s) q ≡ Some e → (b : ℕ) × (slice_get s q ≡ Some b) × (slice_get trace b ≡ Some e)
  index_of_event q e at_q =
      let within = slice_get_within (events_at trace s) q e at_q in
      let same_length = length_events trace s in_range in
      let at_s = slice_get-get_or s q 0 (omega (arith, within, same_length)) in
      let d = event_at_index trace s in_range q (get_or s q 0) at_s in
      let same : Some d.0 ≡ Some e = sym d.1 ∙ at_q in
      let equal : d.0 ≡ e = cc in
      (get_or s q 0, at_s, d.2 ∙ ap (λ x. Some x) equal)

  below_all : (n : ℕ) → DisciplinedBelow (events_at trace s) n
  below_all zero k e lt at_k = absurd (omega arith)
  below_all (suc n) k e lt at_k = go (cases_lt k n) (below_all n)
    where
      go : (k < n) ⊎ (n ≤ k) → DisciplinedBelow (events_at trace s) n → MayCome (take k (events_at trace s)) e
      go (inl h) below = below k e h at_k
      go (inr h) below =
          let index = index_of_event k e at_k in
          may_come k index.0 e index.1 index.2 (λ m d small at_m. below m d (omega arith) at_m)

  pub reordered_disciplined : IsDisciplined (events_at trace s)
  reordered_disciplined k e at_k = below_all (suc k) k e (omega arith) at_k
