-- The clocks of a stored trace, an event more.
use Rattle.std.proofs.Common.{◌≡◌, ℕ, ◌+◌, ◌<◌, ◌≤◌, inl, inr, Bool, false, List, Some, length, take, arith, refl, sym, ◌∙◌, ap, subst}
use Rattle.std.specs.Prelude.{◌↔◌, IsTrue, count_by, slice_get}
use Rattle.shb_stamps.proofs.Words.{Event, IsBefore, IsDisciplined, IsLatestBefore, IsNext, IsShared, Join, KeepsWrite, OfThread, Op, Read, Write, cases_Bool, count_gap, is_of, is_of_thread, local_time, op_at, slice_get_cases, thread_at, thread_is}
use Rattle.shb_lines.specs.text.Limits.{most_events}
use Rattle.shb_stamps.specs.declared.clocks.Clocks.{Clocks}
use Rattle.shb_stamps.proofs.ClockSteps.{passed_read, passed_write}
use Rattle.shb_stamps.proofs.Fronts.{thread_in_range}
use Rattle.shb_stamps.proofs.Locals.{local_is}
use Rattle.shb_stamps.proofs.Sources.{latest_join}

module _ (trace : List Event) (v e : ℕ) where
  fails : (k : ℕ) (d : Event) → slice_get trace k ≡ Some d → (OfThread trace v k → ⊥) → is_of v d ≡ false
  fails k d at none = elim (cases_Bool (is_of v d)) [
    | inr fails_it ↦ fails_it
    | inl passes ↦ absurd (none (thread_is trace k d at ∙ ap (λ (t : ℕ). Some t) (is_of_thread v d passes)))
  ]

  -- how many events a thread had at a join of it
  pub joined_last : (last : ℕ) → IsDisciplined trace → op_at trace e ≡ Some (Join v) → IsLatestBefore (OfThread trace v) (length trace) last → local_time trace v last ≡ count_by (is_of v) (take e trace)
  joined_last last disciplined joins latest =
      let so_far = latest_join trace trace disciplined e v last refl joins latest in
      sym (count_gap (is_of v) trace (last + 1) e (let lt = so_far.earlier in omega (arith, lt)) (λ k d low high at. fails k d at (so_far.last k (omega (arith, low)) high)))

  pub joined_none : ((k : ℕ) → k < length trace → ¬ OfThread trace v k) → 0 ≡ count_by (is_of v) (take e trace)
  joined_none none =
      let gap = count_gap (is_of v) trace 0 e (omega arith) (λ k d low high at. fails k d at (λ of_v. none k (thread_in_range trace k v of_v) of_v)) in
      let zero_count : count_by (is_of v) (take 0 trace) ≡ 0 = refl in
      omega (arith, gap, zero_count)

-- the event at a position, as the code reads it
pub next_at : (trace links : List Event) (e thread time joined : ℕ) (op : Op) → IsDisciplined trace → length trace ≤ most_events → e < length trace → links ≡ trace → thread_at trace e ≡ Some thread → op_at trace e ≡ Some op
    → ((t : ℕ) → thread_at links e ≡ Some t → time ≡ local_time links t e) → ((t : ℕ) → op ≡ Join t → joined ≡ count_by (is_of t) (take e trace)) → IsNext trace e thread op time joined
next_at trace links e thread time joined op disciplined few low same of_e does time_is joined_is = record {
  disciplined = disciplined;
  few = omega (arith, few, low);
  of_thread = of_e;
  does = does;
  time_is = local_is trace links e time thread same time_is of_e;
  joined_is = joined_is;
}

-- the same, where the time isn't read
pub next_known : (trace : List Event) (e thread : ℕ) (op : Op) → IsDisciplined trace → length trace ≤ most_events → e < length trace → thread_at trace e ≡ Some thread → op_at trace e ≡ Some op → ((t : ℕ) → op ≡ Join t → ⊥) → IsNext trace e thread op (local_time trace thread e) 0
next_known trace e thread op disciplined few low of_e does no_join = record { disciplined = disciplined; few = omega (arith, few, low); of_thread = of_e; does = does; time_is = refl; joined_is = λ t joins. absurd (no_join t joins) }

-- accesses of a variable that isn't shared change nothing
module _ (trace links : List Event) (e x : ℕ) (clocks : Clocks) (disciplined : IsDisciplined trace) (few : length trace ≤ most_events) (low : e < length trace) (before : IsBefore trace e false clocks) (same : links ≡ trace) (shared : Bool) (is : IsTrue shared ↔ IsShared links x) (alone : shared ≡ false) where
  none_kept : (k : ℕ) → KeepsWrite false trace x k → ⊥
  none_kept k kept = elim kept.0 [
    | inl h ↦ (let f : ⊥ = cc in f)
    | inr by_others ↦ (let h = is.1 (subst (λ (tr : List Event). IsShared tr x) (sym same) by_others) in let f : ⊥ = cc in f)
  ]

  by_thread : (P : Type 0) → ((thread : ℕ) → thread_at trace e ≡ Some thread → P) → P
  by_thread P go = elim (slice_get_cases trace e).1 [
    | inl c ↦ go c.0.thread (thread_is trace e c.0 c.2)
    | inr c ↦ absurd (let past = c.0 in omega (arith, past, low))
  ]

  pub passed_write_alone : op_at trace e ≡ Some (Write x) → IsBefore trace (e + 1) false clocks
  passed_write_alone writes = by_thread (IsBefore trace (e + 1) false clocks) (λ thread of_e. passed_write trace e thread (local_time trace thread e) 0 (Write x) (next_known trace e thread (Write x) disciplined few low of_e writes (λ t h. (let f : ⊥ = cc in f))) false clocks.rows.list clocks.current.items clocks.locks.items clocks.variables.items before x refl (none_kept e))

  pub passed_read_alone : op_at trace e ≡ Some (Read x) → IsBefore trace (e + 1) false clocks
  passed_read_alone reads = by_thread (IsBefore trace (e + 1) false clocks) (λ thread of_e. passed_read trace e thread (local_time trace thread e) 0 (Read x) (next_known trace e thread (Read x) disciplined few low of_e reads (λ t h. (let f : ⊥ = cc in f))) false clocks.rows.list clocks.current.items clocks.locks.items clocks.variables.items before x refl none_kept)
