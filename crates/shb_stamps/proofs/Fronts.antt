-- Clocks as fronts of threads: an own entry, and the number that an entry is.
use Rattle.std.proofs.Common.{◌≡◌, ◌≢◌, ℕ, zero, suc, ◌+◌, ◌<◌, ◌≤◌, ◌⊎◌, inl, inr, true, false, List, Some, length, get_or, take, arith, subst, ap, sym, ◌∙◌, add-one, get_or-set_same, get_or-set_other}
use Rattle.std.specs.Prelude.{◌↔◌, count_by, min, replicate, slice_get}
use Rattle.shb_stamps.proofs.Words.{Event, IsFrontBut, IsNumberOf, ShbBelow, cases_Bool, cases_eq, cases_lt, count_more_no, count_more_yes, event_of_thread, get_or-replicate, get_or_past, happens_before, here, is_of, is_of_thread, is_of_true, length-replicate, local_time, number_more_no, number_more_yes, number_none, number_same, path_forward, same_thread, set, slice_get_cases, slice_get_within, step, take_all, thread_at, thread_is}
use Rattle.shb_stamps.proofs.Locals.{time_at, time_rises, time_order, time_within}

-- the events with the property are those whose local time is no higher than their thread's entry
pub record IsFront (trace : List Event) (P : ℕ → Type 0) (clock : List ℕ) : Type 0 where
  pub within : (t : ℕ) → get_or clock t 0 ≤ count_by (is_of t) trace
  pub exact : (t k : ℕ) → thread_at trace k ≡ Some t → (local_time trace t k ≤ get_or clock t 0) ↔ P k

pub thread_in_range : (trace : List Event) (k t : ℕ) → thread_at trace k ≡ Some t → k < length trace
thread_in_range trace k t of_k = let e = event_of_thread trace k t of_k in slice_get_within trace k e.0 e.1

module _ (trace : List Event) where
  -- the clock of an event is that of all strictly below it, with its own local time as its thread's entry
  pub front_own : (P : ℕ → Type 0) (e u : ℕ) (clock : List ℕ) → thread_at trace e ≡ Some u → u < length clock → ((t k : ℕ) → thread_at trace k ≡ Some t → t ≢ u → P k ↔ ShbBelow trace k e) → ((t : ℕ) → t ≢ u → get_or clock t 0 ≤ count_by (is_of t) trace) → ((t k : ℕ) → thread_at trace k ≡ Some t → t ≢ u → (local_time trace t k ≤ get_or clock t 0) ↔ P k) → IsFront trace (λ k. ShbBelow trace k e) (set clock u (local_time trace u e))
  front_own P e u clock of_e within same low old = record {
    within = λ t. bound t (cases_eq t u);
    exact = λ t k of_k. exact t k of_k (cases_eq t u);
  }
    where
      own : get_or (set clock u (local_time trace u e)) u 0 ≡ local_time trace u e
      own = get_or-set_same clock u (local_time trace u e) 0 within

      other : (t : ℕ) → t ≢ u → get_or (set clock u (local_time trace u e)) t 0 ≡ get_or clock t 0
      other t ne = get_or-set_other clock u t (local_time trace u e) 0 ne

      bound : (t : ℕ) → (t ≡ u) ⊎ (t ≡ u → ⊥) → get_or (set clock u (local_time trace u e)) t 0 ≤ count_by (is_of t) trace
      bound t (inl is) = rw is (let o = own in let le = time_within trace u e (thread_in_range trace e u of_e) in omega (arith, o, le))
      bound t (inr ne) = let o = other t ne in let le = low t ne in omega (arith, o, le)

      in_order : (k : ℕ) → thread_at trace k ≡ Some u → (k < e) ⊎ (e ≤ k) → k ≤ e → ShbBelow trace k e
      in_order k of_k (inl lt) le = step (happens_before (record { earlier = lt; rule = same_thread u of_k of_e })) here
      in_order k of_k (inr ge) le = subst (λ x. ShbBelow trace k x) (let g : k ≡ e = omega arith in g) here

      time_le : (k : ℕ) → (k < e) ⊎ (e ≤ k) → k ≤ e → local_time trace u k ≤ local_time trace u e
      time_le k (inl lt) le = let rises = time_rises trace u k e of_e lt in omega (arith, rises)
      time_le k (inr ge) le = let g : k ≡ e = omega arith in rw g (let r : local_time trace u e ≤ local_time trace u e = omega arith in r)

      exact : (t k : ℕ) → thread_at trace k ≡ Some t → (t ≡ u) ⊎ (t ≡ u → ⊥) → (local_time trace t k ≤ get_or (set clock u (local_time trace u e)) t 0) ↔ ShbBelow trace k e
      exact t k of_k (inr ne) = let o = other t ne in let prior = old t k of_k ne in let s = same t k of_k ne in (
        (λ le. s.0 (prior.0 (omega (arith, o, le)))),
        (λ path. (let le = prior.1 (s.1 path) in omega (arith, o, le))),
      )
      exact t k of_k (inl is) = let of_u : thread_at trace k ≡ Some u = of_k ∙ ap (λ n. Some n) is in let o = own in rw is (
        (λ le. in_order k of_u (cases_lt k e) (time_order trace u k e of_u (omega (arith, o, le)))),
        (λ path. (let le = time_le k (cases_lt k e) (path_forward trace k e path) in omega (arith, o, le))),
      )

  -- how many of the first m events of a thread have a local time up to n
  number_below : (t n m : ℕ) → m ≤ length trace → IsNumberOf (λ k. (k < m) × ((thread_at trace k ≡ Some t) × (local_time trace t k ≤ n))) (min n (count_by (is_of t) (take m trace)))
  number_below t n zero le = rw (let z : min n (count_by (is_of t) (take 0 trace)) ≡ 0 = omega arith in z) (number_none _)
  number_below t n (suc m) le = elim (slice_get_cases trace m).1 [
    | inl c ↦ rw add-one at (go (number_below t n m (omega arith)) c.0 c.2 (cases_Bool (is_of t c.0)))
    | inr c ↦ absurd (let past = c.0 in omega arith)
  ]
    where
      P : ℕ → Type 0
      P k = (thread_at trace k ≡ Some t) × (local_time trace t k ≤ n)

      Prior : Type 0
      Prior = IsNumberOf (λ k. (k < m) × P k) (min n (count_by (is_of t) (take m trace)))

      of_m : (e : Event) → slice_get trace m ≡ Some e → is_of t e ≡ true → thread_at trace m ≡ Some t
      of_m e at_m is = thread_is trace m e at_m ∙ ap (λ x. Some x) (is_of_thread t e is)

      counted : Prior → (e : Event) → slice_get trace m ≡ Some e → is_of t e ≡ true → (local_time trace t m ≤ n) ⊎ (n < local_time trace t m) → IsNumberOf (λ k. (k < m + 1) × P k) (min n (count_by (is_of t) (take (m + 1) trace)))
      counted prior e at_m is (inl low) =
          let time = time_at trace t m (of_m e at_m is) in
          let one = count_more_yes (is_of t) trace m e at_m is in
          let total : min n (count_by (is_of t) (take m trace)) + 1 ≡ min n (count_by (is_of t) (take (m + 1) trace)) = omega (arith, time, one, low) in
          subst (λ c. IsNumberOf (λ k. (k < m + 1) × P k) c) total (number_more_yes P m _ (of_m e at_m is, low) prior)
      counted prior e at_m is (inr high) =
          let time = time_at trace t m (of_m e at_m is) in
          let one = count_more_yes (is_of t) trace m e at_m is in
          let total : min n (count_by (is_of t) (take m trace)) ≡ min n (count_by (is_of t) (take (m + 1) trace)) = omega (arith, time, one, high) in
          subst (λ c. IsNumberOf (λ k. (k < m + 1) × P k) c) total (number_more_no P m _ (λ h. (let le = h.1 in omega (arith, high, le))) prior)

      go : Prior → (e : Event) → slice_get trace m ≡ Some e → (is_of t e ≡ true) ⊎ (is_of t e ≡ false) → IsNumberOf (λ k. (k < m + 1) × P k) (min n (count_by (is_of t) (take (m + 1) trace)))
      go prior e at_m (inl is) = counted prior e at_m is (elim (cases_lt n (local_time trace t m)) [ inl h ↦ inr h | inr h ↦ inl h ])
      go prior e at_m (inr not) =
          let one = count_more_no (is_of t) trace m e at_m not in
          subst (λ c. IsNumberOf (λ k. (k < m + 1) × P k) (min n c)) (sym one) (number_more_no P m _ (λ h. (let d = thread_is trace m e at_m in let s : Some e.thread ≡ Some t = sym d ∙ h.0 in let yes_it = is_of_true t e (let g : e.thread ≡ t = cc in g) in (let f : ⊥ = cc in f))) prior)

  pub number_up_to : (t n : ℕ) → n ≤ count_by (is_of t) trace → IsNumberOf (λ k. (thread_at trace k ≡ Some t) × (local_time trace t k ≤ n)) n
  number_up_to t n le =
      let all = number_below t n (length trace) (omega arith) in
      let whole = ap (count_by (is_of t)) (take_all (length trace) trace (omega arith)) in
      let total : min n (count_by (is_of t) (take (length trace) trace)) ≡ n = omega (arith, whole, le) in
      number_same _ _ n (λ k. ((λ h. h.1), (λ h. (thread_in_range trace k t h.0, h)))) (subst (λ c. IsNumberOf (λ k. (k < length trace) × ((thread_at trace k ≡ Some t) × (local_time trace t k ≤ n))) c) total all)

  -- the clock of an event, from a row without the entry of its thread
  pub front_whole : (b u : ℕ) (row : List ℕ) → thread_at trace b ≡ Some u → u < length row → IsFrontBut trace u (λ k. ShbBelow trace k b) row → IsFront trace (λ k. ShbBelow trace k b) (set row u (local_time trace u b))
  front_whole b u row of_b lt but = front_own (λ k. ShbBelow trace k b) b u row of_b lt (λ t k of_k ne. ((λ h. h), (λ h. h))) but.within but.exact

  pub front_but_same : (u : ℕ) (P Q : ℕ → Type 0) (clock : List ℕ) → ((t k : ℕ) → thread_at trace k ≡ Some t → t ≢ u → P k ↔ Q k) → IsFrontBut trace u P clock → IsFrontBut trace u Q clock
  front_but_same u P Q clock same but = record {
    within = but.within;
    exact = λ t k of_k ne. (let old = but.exact t k of_k ne in let s = same t k of_k ne in ((λ le. s.0 (old.0 le)), (λ q. old.1 (s.1 q))));
  }

  pub thread_same : (k t u : ℕ) → thread_at trace k ≡ Some t → thread_at trace k ≡ Some u → t ≡ u
  thread_same k t u of_t of_u = let s : Some t ≡ Some u = sym of_t ∙ of_u in cc

-- an entry of a clock of zeros
pub zero_entry : (n t : ℕ) → ◌≡◌ {A = ℕ} (get_or (replicate n 0) t 0) 0
zero_entry n t = elim (cases_lt t n) [ inl lt ↦ get_or-replicate n t 0 0 lt | inr le ↦ get_or_past (replicate n 0) t 0 (let long = length-replicate {A = ℕ} n 0 in omega (arith, long, le)) ]
