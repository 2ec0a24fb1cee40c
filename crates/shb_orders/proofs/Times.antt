-- The local time of a first event.
use Rattle.std.proofs.Common.{◌≡◌, ◌≢◌, ℕ, ◌<◌, ◌≤◌, ◌⊎◌, inl, inr, true, false, List, Some, take, arith, ap, ◌∙◌}
use Rattle.std.specs.Prelude.{count_by, slice_get}
use Rattle.shb_orders.proofs.Words.{Event, cases_Bool, count_gap, is_of, is_of_thread, local_time, thread_at, thread_is, time_at}

module _ (trace : List Event) (t : ℕ) where
  -- no event of the thread stands between
  gap : (a b : ℕ) → a ≤ b → ((m : ℕ) → a ≤ m → m < b → thread_at trace m ≢ Some t) → count_by (is_of t) (take b trace) ≡ count_by (is_of t) (take a trace)
  gap a b le none = count_gap (is_of t) trace a b le (λ k d low high at_k. other k d low high at_k (cases_Bool (is_of t d)))
    where
      other : (k : ℕ) (d : Event) → a ≤ k → k < b → slice_get trace k ≡ Some d → (is_of t d ≡ true) ⊎ (is_of t d ≡ false) → is_of t d ≡ false
      other k d low high at_k (inr fails) = fails
      other k d low high at_k (inl is) = absurd (none k low high (thread_is trace k d at_k ∙ ap (λ x. Some x) (is_of_thread t d is)))

  pub time_first : (e : ℕ) → thread_at trace e ≡ Some t → ((m : ℕ) → m < e → thread_at trace m ≢ Some t) → local_time trace t e ≡ 1
  time_first e of_e none = let before = gap 0 e (omega arith) (λ m low high. none m high) in let own = time_at trace t e of_e in omega (arith, before, own)
