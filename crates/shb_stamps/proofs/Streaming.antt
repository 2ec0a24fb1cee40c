-- The clocks of a stream, an event more.
use Rattle.std.proofs.Common.{◌≡◌, ◌≢◌, ℕ, ◌+◌, ◌<◌, ◌≤◌, ◌^◌, ◌⊎◌, inl, inr, Bool, true, false, List, [], ◌∷◌, ◌++◌, Some, length, get_or, take, arith, refl, sym, subst, ◌∙◌, ap}
use Rattle.std.specs.Prelude.{◌-◌, cond, count_by, min, slice_get}
use Rattle.shb_stamps.proofs.Words.{Event, IsBefore, IsBelowPredCount, IsDisciplined, IsNext, IsPut, Join, Op, cases_Bool, cases_eq, count_by-le-length, get_or_push, is_of, is_of_thread, is_of_true, local_time, op_is, slice_get-get_or, take-append-le, take_all, thread_at, thread_is}
use Rattle.shb_stamps.specs.Clocks.{IsStreamed}
use Rattle.shb_stamps.specs.declared.stream_clocks.StreamClocks.{StreamClocks}
use Rattle.shb_stamps.proofs.ClockSteps.{row_at}
use Rattle.shb_stamps.proofs.Counting.{count_other, count_own}
use Rattle.shb_stamps.proofs.Streams.{clocks_longer, count_more, last_time, long}

module _ (past : List Event) (e : Event) (disciplined : IsDisciplined (past ++ e ∷ [])) (stream : StreamClocks) (old : IsStreamed past stream) where
  abbrev n : ℕ
  n = length past

  abbrev now : List Event
  now = past ++ e ∷ []

  at_last : slice_get now n ≡ Some e
  at_last = slice_get-get_or now n e (let l = long past e in omega (arith, l)) ∙ ap (λ (x : Event). Some x) (get_or_push past e e n refl)

  of_last : (thread : ℕ) → e.thread ≡ thread → thread_at now n ≡ Some thread
  of_last thread same = thread_is now n e at_last ∙ ap (λ (t : ℕ). Some t) same

  count_front : (v : ℕ) → count_by (is_of v) (take n now) ≡ count_by (is_of v) past
  count_front v = ap (count_by (is_of v)) (take-append-le n past (e ∷ []) (omega arith) ∙ take_all n past (omega arith))

  own_time : (thread : ℕ) → e.thread ≡ thread → local_time now thread n ≡ get_or stream.times.items thread 0 + 1
  own_time thread same = let last = last_time past e thread (of_last thread same) in let known = old.times thread in omega (arith, last, known)

  before : IsBefore now n true stream.clocks
  before = clocks_longer past e stream.clocks.rows.list stream.clocks.current.items stream.clocks.locks.items stream.clocks.variables.items old.clocks

  pub few_times : (t : ℕ) → get_or stream.times.items t 0 ≤ n
  few_times t = let known = old.times t in let most = count_by-le-length (is_of t) past in omega (arith, known, most)

  next : (thread : ℕ) (op : Op) (time joined : ℕ) → e.thread ≡ thread → e.op ≡ op → n + 1 < 2 ^ 32 → time ≡ get_or stream.times.items thread 0 + 1 → ((t : ℕ) → op ≡ Join t → joined ≡ get_or stream.times.items t 0) → IsNext now n thread op time joined
  next thread op time joined same of_op few time_is joined_is = record {
    disciplined = disciplined;
    few = few;
    of_thread = of_last thread same;
    does = op_is now n e at_last ∙ ap (λ (o : Op). Some o) of_op;
    time_is = time_is ∙ sym (own_time thread same);
    joined_is = λ t joins. joined_is t joins ∙ (old.times t ∙ sym (count_front t));
  }

  -- what is answered for the thread itself, and for another
  pub own_count : (thread other time : ℕ) → e.thread ≡ thread → other ≡ thread → time ≡ get_or stream.times.items thread 0 → IsBelowPredCount now other n time
  own_count thread other time same is time_is = count_own now now disciplined refl other thread n time (of_last thread same) is (let own = own_time thread same in omega (arith, own, time_is))

  -- the times, an event more
  times_put : (thread time : ℕ) (after : List ℕ) → e.thread ≡ thread → time ≡ get_or stream.times.items thread 0 + 1 → IsPut 0 thread time stream.times.items after → (t : ℕ) → get_or after t 0 ≡ count_by (is_of t) now
  times_put thread time after same time_is put t = go (cases_eq t thread)
    where
      other_thread : t ≢ thread → is_of t e ≡ false
      other_thread ne = elim (cases_Bool (is_of t e)) [ inr fails_it ↦ fails_it | inl passes ↦ absurd (ne (sym (is_of_thread t e passes) ∙ same)) ]

      go : (t ≡ thread) ⊎ (t ≢ thread) → get_or after t 0 ≡ count_by (is_of t) now
      go (inl is) =
          let passes = ap (λ (b : Bool). cond {A = ℕ} b 1 0) (is_of_true t e (same ∙ sym is)) in
          let all = count_more past e t in
          let before = old.times t in
          let there = ap (λ (v : ℕ). get_or after v 0) is ∙ put.there in
          let own = ap (λ (v : ℕ). get_or stream.times.items v 0) is in
          omega (arith, passes, all, before, there, own, time_is)
      go (inr ne) =
          let fails = ap (λ (b : Bool). cond {A = ℕ} b 1 0) (other_thread ne) in
          let all = count_more past e t in
          let before = old.times t in
          let there = put.others t ne in
          omega (arith, fails, all, before, there)

  -- the event was taken, as the code names what it did
  pub streamed : (thread : ℕ) (op : Op) (own time joined : ℕ) (after : StreamClocks) → e.thread ≡ thread → e.op ≡ op → n + 1 < 2 ^ 32 → own ≡ get_or stream.times.items thread 0 → time ≡ min (own + 1) (2 ^ 32 - 1) → ((t : ℕ) → op ≡ Join t → joined ≡ get_or stream.times.items t 0)
      → IsPut 0 thread time stream.times.items after.times.items → (IsNext now n thread op time joined → IsBefore now n true stream.clocks → IsBefore now (n + 1) true after.clocks) → IsStreamed now after
  streamed thread op own time joined after same of_op few own_is time_is joined_is put taken = record {
    clocks = subst (λ (m : ℕ). IsBefore now m true after.clocks) (sym (long past e)) (taken (next thread op time joined same of_op few counted joined_is) before);
    times = times_put thread time after.times.items same counted put;
  }
    where
      counted : time ≡ get_or stream.times.items thread 0 + 1
      counted = let low = few_times thread in omega (arith, low, few, own_is, time_is)

  pub other_count : (thread other answer : ℕ) → e.thread ≡ thread → (other ≡ thread → ⊥) → answer ≡ get_or (get_or stream.clocks.rows.list (get_or stream.clocks.current.items thread 0) []) other 0 → IsBelowPredCount now other n answer
  other_count thread other answer same ne is = count_other now now stream.clocks.rows.list n thread other (get_or stream.clocks.current.items thread 0) answer (get_or stream.clocks.rows.list (get_or stream.clocks.current.items thread 0) []) refl
      (row_at now disciplined n thread true stream.clocks.rows.list stream.clocks.current.items stream.clocks.locks.items stream.clocks.variables.items (of_last thread same) before (get_or stream.clocks.current.items thread 0) refl) refl ne is

-- before the first event
pub streamed_none : (stream : StreamClocks) → IsBefore [] 0 true stream.clocks → stream.times.items ≡ [] → IsStreamed [] stream
streamed_none stream clocks none = record { clocks = clocks; times = λ t. ap (λ (xs : List ℕ). get_or xs t 0) none }
