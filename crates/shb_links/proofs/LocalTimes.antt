-- The local time of an event, as a number of events.
use Rattle.std.proofs.Common.{◌≡◌, ℕ, zero, suc, ◌+◌, ◌<◌, ◌≤◌, ◌⊎◌, inl, inr, true, false, List, Some, length, take, arith, sym, ◌∙◌, ap, add-one}
use Rattle.std.specs.Prelude.{count_by, slice_get}
use Rattle.shb_links.proofs.Words.{Event, IsLocal, IsNumberOf, OfThread, cases_Bool, count_more_no, count_more_yes, is_of, is_of_thread, is_of_true, local_time, number_more_no, number_more_yes, number_none, number_same, slice_get_cases, thread_at, thread_is}

-- one more event, of the thread or of another
number_more : (trace : List Event) (t n : ℕ) (d : Event) → slice_get trace n ≡ Some d → (is_of t d ≡ true) ⊎ (is_of t d ≡ false) → IsNumberOf (λ k. (k < n) × OfThread trace t k) (count_by (is_of t) (take n trace)) → IsNumberOf (λ k. (k < n + 1) × OfThread trace t k) (count_by (is_of t) (take (n + 1) trace))
number_more trace t n d at (inl is) before = rw (count_more_yes (is_of t) trace n d at is) (number_more_yes (OfThread trace t) n _ (thread_is trace n d at ∙ ap (λ u. Some u) (is_of_thread t d is)) before)
number_more trace t n d at (inr other) before = rw (count_more_no (is_of t) trace n d at other) (number_more_no (OfThread trace t) n _ (λ of_n. let same : Some d.thread ≡ Some t = sym (thread_is trace n d at) ∙ of_n in let passes = is_of_true t d (let g : d.thread ≡ t = cc in g) in (let f : ⊥ = cc in f)) before)

-- the count of a thread's events before n is how many there are
count_is_number : (trace : List Event) (t n : ℕ) → n ≤ length trace → IsNumberOf (λ k. (k < n) × OfThread trace t k) (count_by (is_of t) (take n trace))
count_is_number trace t zero le = number_none (OfThread trace t)
count_is_number trace t (suc n) le = elim (slice_get_cases trace n).1 [
  | inl c ↦ rw add-one at (number_more trace t n c.0 c.2 (cases_Bool (is_of t c.0)) (count_is_number trace t n (omega arith)))
  | inr c ↦ (let past = c.0 in absurd (omega arith))
]

-- the local time of an event is how many events of the thread stand at it or before it
pub time_is_number : (trace : List Event) (e t : ℕ) → e < length trace → thread_at trace e ≡ Some t → IsLocal trace e (local_time trace t e)
time_is_number trace e t lt of_e = number_same _ _ _ (λ k. (
  (λ h. ((let below = h.0 in omega arith), h.1 ∙ sym of_e)),
  (λ h. ((let le = h.0 in omega arith), h.1 ∙ of_e)),
)) (count_is_number trace t (e + 1) (omega arith))
