-- The local times at which a thread may learn, event by event.
use Rattle.std.proofs.Common.{◌≡◌, ◌≢◌, ℕ, ◌+◌, ◌<◌, ◌≤◌, inl, inr, List, [], ◌∷◌, ◌++◌, Some, length, take, get_or, arith, subst, ap, sym, ◌∙◌}
use Rattle.std.specs.Prelude.{count_by}
use Rattle.shb_orders.proofs.Words.{AreEach, AreLearnedTimes, Event, IsLearning, IsListed, IsWithin, LearnsAt, Sizes, cases_Bool, cases_eq, cases_lt, count_more_no, event_of_thread, get_or_past, is_of, is_of_thread, listed_more_no, listed_more_yes, listed_none, local_time, take_all, thread_at, thread_within, time_at, time_order, time_within}
use Rattle.shb_stamps.proofs.Fronts.{thread_in_range}

-- how many of the first n events are of thread t
abbrev pub number_before : List Event → ℕ → ℕ → ℕ
number_before trace t n = count_by (is_of t) (take n trace)

-- the local times of the first n events
abbrev pub AreTimes : List Event → ℕ → ℕ → List ℕ → Type 0
AreTimes trace t n times = IsListed (LearnsAt trace t) (number_before trace t n + 1) times

module _ (trace : List Event) (t : ℕ) where
  pub times_start : AreTimes trace t 0 []
  times_start = listed_more_no (LearnsAt trace t) 0 [] (λ at. (let own = time_at trace t at.event at.of_thread in let is = at.time_is in omega (arith, own, is))) (listed_none (LearnsAt trace t))

  -- an event of another thread
  times_other : (n u : ℕ) (times : List ℕ) → thread_at trace n ≡ Some u → t ≢ u → AreTimes trace t n times → AreTimes trace t (n + 1) times
  times_other n u times of_n ne old = subst (λ (m : ℕ). IsListed (LearnsAt trace t) (m + 1) times) (sym same) old
    where
      same : number_before trace t (n + 1) ≡ number_before trace t n
      same = let d = event_of_thread trace n u of_n in count_more_no (is_of t) trace n d.0 d.1 (elim (cases_Bool (is_of t d.0)) [ inr other ↦ other | inl is ↦ absurd (ne (sym (is_of_thread t d.0 is) ∙ d.2)) ])

  pub times_no : (n u : ℕ) (times : List ℕ) → thread_at trace n ≡ Some u → (t ≡ u → IsLearning trace n → ⊥) → AreTimes trace t n times → AreTimes trace t (n + 1) times
  times_no n u times of_n none old = elim (cases_eq t u) [ inr ne ↦ times_other n u times of_n ne old | inl is ↦ own is (subst (λ (v : ℕ). thread_at trace n ≡ Some v) (sym is) of_n) ]
    where
      never : t ≡ u → thread_at trace n ≡ Some t → LearnsAt trace t (number_before trace t n + 1) → ⊥
      never is of_own at =
          let time : local_time trace t at.event ≡ local_time trace t n = at.time_is ∙ sym (time_at trace t n of_own) in
          let low = time_order trace t at.event n at.of_thread (omega (arith, time)) in
          let high = time_order trace t n at.event of_own (omega (arith, time)) in
          let same : at.event ≡ n = omega (arith, low, high) in
          none is (subst (IsLearning trace) same at.learning)

      own : t ≡ u → thread_at trace n ≡ Some t → AreTimes trace t (n + 1) times
      own is of_own = subst (λ (m : ℕ). IsListed (LearnsAt trace t) (m + 1) times) (sym (time_at trace t n of_own)) (listed_more_no (LearnsAt trace t) (number_before trace t n + 1) times (never is of_own) old)

  pub times_yes : (n time : ℕ) (times : List ℕ) → thread_at trace n ≡ Some t → IsLearning trace n → time ≡ local_time trace t n → AreTimes trace t n times → AreTimes trace t (n + 1) (times ++ time ∷ [])
  times_yes n time times of_n learning is old =
      let own = time_at trace t n of_n in
      let here : LearnsAt trace t (number_before trace t n + 1) = record { event = n; of_thread = of_n; learning = learning; time_is = own } in
      subst (λ (m : ℕ). IsListed (LearnsAt trace t) (m + 1) (times ++ time ∷ [])) (sym own)
      (subst (λ (m : ℕ). IsListed (LearnsAt trace t) (number_before trace t n + 1 + 1) (times ++ m ∷ [])) (sym (is ∙ own)) (listed_more_yes (LearnsAt trace t) (number_before trace t n + 1) times here old))

  pub times_whole : (times : List ℕ) → AreTimes trace t (length trace) times → AreLearnedTimes trace t times
  times_whole times all = record {
    rising = all.rising;
    all = λ time. ((λ c. ((all.members time).0 c).1), (λ at. (all.members time).1 (low time at, at)));
  }
    where
      low : (time : ℕ) → LearnsAt trace t time → time < number_before trace t (length trace) + 1
      low time at =
          let le = time_within trace t at.event (thread_in_range trace at.event t at.of_thread) in
          let is = at.time_is in
          let whole = ap (count_by (is_of t)) (take_all (length trace) trace (omega arith)) in
          omega (arith, le, is, whole)

-- a thread that the trace doesn't have learns nothing
none_learned : (trace : List Event) (sizes : Sizes) (t : ℕ) → IsWithin trace sizes → sizes.threads ≤ t → AreLearnedTimes trace t []
none_learned trace sizes t within past = record {
  rising = λ k lt. absurd (omega arith);
  all = λ time. ((λ c. absurd (let lt = c.1 in omega arith)), (λ at. absurd (let low = thread_within trace sizes at.event t within at.of_thread in omega (arith, low, past))));
}

-- the times of all threads are those of each
pub times_each : (trace : List Event) (sizes : Sizes) (n : ℕ) (rows : List (List ℕ)) → IsWithin trace sizes → sizes.threads ≤ n → AreEach (AreLearnedTimes trace) n rows → (t : ℕ) → AreLearnedTimes trace t (get_or rows t [])
times_each trace sizes n rows within all has t = elim (cases_lt t n) [
  | inl lt ↦ has.each t lt
  | inr le ↦ subst (AreLearnedTimes trace t) (sym (get_or_past rows t [] (let many = has.as_many in omega (arith, many, le)))) (none_learned trace sizes t within (omega (arith, all, le)))
]
