-- The local time of an event rises along the thread.
use Rattle.std.proofs.Common.{◌≡◌, ℕ, ◌+◌, ◌<◌, ◌≤◌, ◌⊎◌, inl, inr, List, Some, length, take, arith, subst, ap}
use Rattle.std.specs.Prelude.{count_by}
use Rattle.shb_stamps.proofs.Words.{Event, cases_lt, count_mono, count_more_yes, event_of_thread, is_of, is_of_true, local_time, take_all, thread_at}

module _ (trace : List Event) (t : ℕ) where
  pub time_at : (k : ℕ) → thread_at trace k ≡ Some t → local_time trace t k ≡ count_by (is_of t) (take k trace) + 1
  time_at k of_k = let e = event_of_thread trace k t of_k in count_more_yes (is_of t) trace k e.0 e.1 (is_of_true t e.0 e.2)

  pub time_rises : (a b : ℕ) → thread_at trace b ≡ Some t → a < b → local_time trace t a < local_time trace t b
  time_rises a b of_b lt =
      let later = time_at b of_b in
      let more = count_mono (is_of t) trace (a + 1) b (omega arith) in
      omega (arith, later, more)

  pub time_order : (a b : ℕ) → thread_at trace a ≡ Some t → local_time trace t a ≤ local_time trace t b → a ≤ b
  time_order a b of_a le = go (cases_lt b a)
    where
      go : (b < a) ⊎ (a ≤ b) → a ≤ b
      go (inr h) = h
      go (inl h) = let rises = time_rises b a of_a h in absurd (omega (arith, rises, le))

  pub time_within : (k : ℕ) → k < length trace → local_time trace t k ≤ count_by (is_of t) trace
  time_within k lt =
      let more = count_mono (is_of t) trace (k + 1) (length trace) (omega arith) in
      let whole = ap (count_by (is_of t)) (take_all (length trace) trace (omega arith)) in
      omega (arith, more, whole)

-- the local time of an event, by the links
pub local_is : (trace links : List Event) (e x u : ℕ) → links ≡ trace → ((t : ℕ) → thread_at links e ≡ Some t → x ≡ local_time links t e) → thread_at trace e ≡ Some u → x ≡ local_time trace u e
local_is trace links e x u same time of_e = subst (λ (tr : List Event). (t : ℕ) → thread_at tr e ≡ Some t → x ≡ local_time tr t e) same time u of_e
